use Rattle.std.proofs.Common.{length, sym, arith}
use Rattle.std.proofs.lemmas.List.{length-take-le}
use Rattle.cg_netlist.specs.View.{cell_seen}
use Rattle.cg_edge.proofs.Facts.{cell_inputs}
use Rattle.cg_edge.proofs.flat.evaluate_wide.Goals as goal
use Rattle.cg_netlist.proofs.CellFits.{widest_at}

pub gather-requires-clause-nets : goal.gather-requires-clause-nets
gather-requires-clause-nets c = cell_inputs c.args.netlist.now c.requires.netlist.well_formed c.args.id (cell_seen c.cell.result) c.cell.ensures (length c.args.nets.now) c.requires.nets

pub gather-requires-clause-scratch : goal.gather-requires-clause-scratch
gather-requires-clause-scratch c = let least = widest_at c.args.netlist.now.cells c.args.id (cell_seen c.cell.result) c.cell.ensures in omega (arith, least, c.requires.room)

pub slice_bounds-value-end : goal.slice_bounds-value-end
slice_bounds-value-end c = let least = widest_at c.args.netlist.now.cells c.args.id (cell_seen c.cell.result) c.cell.ensures in omega (arith, least, c.requires.room, c.gather.auto.scratch)

pub slice_bounds-value-end-2 : goal.slice_bounds-value-end-2
slice_bounds-value-end-2 c =
    let least = widest_at c.args.netlist.now.cells c.args.id (cell_seen c.cell.result) c.cell.ensures in
    sym (length-take-le (length c.cell.result.inputs.now) c.gather.new.scratch (omega (arith, least, c.requires.room, c.gather.auto.scratch)))

pub value-requires : goal.value-requires
value-requires c =
    let least = widest_at c.args.netlist.now.cells c.args.id (cell_seen c.cell.result) c.cell.ensures in
    (cell_seen c.cell.result, c.cell.ensures, length-take-le (length c.cell.result.inputs.now) c.gather.new.scratch (omega (arith, least, c.requires.room, c.gather.auto.scratch)))
