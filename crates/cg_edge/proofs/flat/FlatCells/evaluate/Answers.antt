use Rattle.std.proofs.Common.{◌<◌, ◌≤◌, Bool, List, drop, length, nat_eq, take, sym, subst, ap, ◌∙◌, arith}
use Rattle.std.specs.Int.{bit_at}
use Rattle.std.specs.List.{All}
use Rattle.cg_netlist.specs.Moment.{function_value, values_at}
use Rattle.cg_netlist.proofs.Values.{element_at, length-values_at}
use Rattle.cg_edge.specs.declared.flat.FlatCell.{FlatCell}
use Rattle.cg_edge.specs.inner.Flat.{IsLaid, Layout, row_of}
use Rattle.cg_edge.proofs.Facts.{cell_inputs}
use Rattle.cg_edge.proofs.Laid.{laid_here, looked_up}
use Rattle.cg_edge.proofs.flat.FlatCells.evaluate.Goals as goal

pub look_up-requires-clause-within : goal.look_up-requires-clause-within
look_up-requires-clause-within c =
    let inside : Layout = record { cells = c.self.inside.cells.items; inputs = c.self.inside.inputs.items } in
    let cell = element_at c.args.netlist.now.cells c.args.id c.requires.cell in
    let is : IsLaid inside.inputs c.index-laid.result.now cell.0 = laid_here c.args.netlist.now c.args.id c.args.place inside c.args.self.now c.index-laid.result.now c.self.view_is c.requires.laid c.requires.place c.index-laid.ensures cell.0 cell.1 in
    let within = is.within in
    let long = ap length c.deref.ensures.value in
    omega (arith, within, long)

pub look_up-requires-clause-nets : goal.look_up-requires-clause-nets
look_up-requires-clause-nets c =
    let inside : Layout = record { cells = c.self.inside.cells.items; inputs = c.self.inside.inputs.items } in
    let laid : FlatCell = c.index-laid.result.now in
    let cell = element_at c.args.netlist.now.cells c.args.id c.requires.cell in
    let is : IsLaid inside.inputs laid cell.0 = laid_here c.args.netlist.now c.args.id c.args.place inside c.args.self.now laid c.self.view_is c.requires.laid c.requires.place c.index-laid.ensures cell.0 cell.1 in
    subst (All (λ net. net < length c.args.nets.now)) (sym (ap (λ l. take laid.count (drop laid.first l)) c.deref.ensures.value ∙ is.inputs))
    (cell_inputs c.args.netlist.now c.requires.netlist.well_formed c.args.id cell.0 cell.1 (length c.args.nets.now) c.requires.nets)

pub returns-clause-value : goal.returns-clause-value
returns-clause-value c cell at =
    let inside : Layout = record { cells = c.self.inside.cells.items; inputs = c.self.inside.inputs.items } in
    let nets : List Bool = c.args.nets.now in
    let laid : FlatCell = c.index-laid.result.now in
    let is : IsLaid inside.inputs laid cell = laid_here c.args.netlist.now c.args.id c.args.place inside c.args.self.now laid c.self.view_is c.requires.laid c.requires.place c.index-laid.ensures cell at in
    let few : length cell.inputs ≤ 6 = let count = is.count in omega (arith, count, c.if-laid-gt-FEW.false) in
    let long = length-values_at nets cell.inputs (cell_inputs c.args.netlist.now c.requires.netlist.well_formed c.args.id cell at (length nets) c.requires.nets) in
    c.look_up.ensures ∙ (ap (λ l. nat_eq (bit_at laid.table (row_of (values_at nets l))) 1) (ap (λ l. take laid.count (drop laid.first l)) c.deref.ensures.value ∙ is.inputs)
    ∙ looked_up (function_value cell.function (values_at nets cell.inputs)) (bit_at laid.table (row_of (values_at nets cell.inputs))) (is.table few (values_at nets cell.inputs) long))
