use Rattle.std.proofs.Common.{◌-◌, ap, ◌∙◌, arith, drop, take}
use Rattle.cg_netlist.proofs.FanInLemmas.{cell_below, cell_part}
use Rattle.cg_netlist.proofs.fan_in.FanIn.of.Goals as goal

pub index-start-requires : goal.index-start-requires
index-start-requires c =
    let below = cell_below c.self.inside.starts.items c.self.inside.cells.items c.args.self.now c.args.cell c.self.invariant c.self.view_is c.requires in
    omega arith

pub overflow_add-cell : goal.overflow_add-cell
overflow_add-cell c =
    let below = cell_below c.self.inside.starts.items c.self.inside.cells.items c.args.self.now c.args.cell c.self.invariant c.self.view_is c.requires in
    omega arith

pub index-end-requires : goal.index-end-requires
index-end-requires c =
    let below = cell_below c.self.inside.starts.items c.self.inside.cells.items c.args.self.now c.args.cell c.self.invariant c.self.view_is c.requires in
    omega arith

pub offset_bounds-deref-start : goal.offset_bounds-deref-start
offset_bounds-deref-start c =
    let part = cell_part c.self.inside.starts.items c.self.inside.cells.items c.args.self.now c.args.cell c.index-start.result.now c.index-end.result.now
    c.self.invariant c.self.view_is c.requires c.index-start.ensures c.index-end.ensures in
    omega (arith, part.part.rises, part.part.within)

pub slice_bounds-result-count : goal.slice_bounds-result-count
slice_bounds-result-count c =
    let part = cell_part c.self.inside.starts.items c.self.inside.cells.items c.args.self.now c.args.cell c.index-start.result.now c.index-end.result.now
    c.self.invariant c.self.view_is c.requires c.index-start.ensures c.index-end.ensures in
    part.part.rises

pub slice_bounds-result-start : goal.slice_bounds-result-start
slice_bounds-result-start c =
    let part = cell_part c.self.inside.starts.items c.self.inside.cells.items c.args.self.now c.args.cell c.index-start.result.now c.index-end.result.now
    c.self.invariant c.self.view_is c.requires c.index-start.ensures c.index-end.ensures in
    omega (arith, part.part.rises, part.part.within)

pub slice_bounds-result-end : goal.slice_bounds-result-end
slice_bounds-result-end c =
    let part = cell_part c.self.inside.starts.items c.self.inside.cells.items c.args.self.now c.args.cell c.index-start.result.now c.index-end.result.now
    c.self.invariant c.self.view_is c.requires c.index-start.ensures c.index-end.ensures in
    omega (arith, part.part.rises, part.part.within)

pub returns : goal.returns
returns c =
    let part = cell_part c.self.inside.starts.items c.self.inside.cells.items c.args.self.now c.args.cell c.index-start.result.now c.index-end.result.now
    c.self.invariant c.self.view_is c.requires c.index-start.ensures c.index-end.ensures in
    ap (λ cells. take (c.index-end.result.now - c.index-start.result.now) (drop c.index-start.result.now cells)) c.deref.ensures.value ∙ part.is
