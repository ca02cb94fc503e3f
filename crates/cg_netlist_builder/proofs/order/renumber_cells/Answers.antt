use Rattle.std.proofs.Common.{◌≡◌, Some, get_or, ◌∙◌, ap, arith}
use Rattle.std.specs.List.{slice_get, slice_set}
use Rattle.std.proofs.lemmas.Option.{slice_get-get_or}
use Rattle.cg_netlist.specs.Wiring.{map_cell}
use Rattle.cg_netlist_builder.specs.inner.Renumbering.{number_in}
use Rattle.cg_netlist_builder.proofs.InPlace.{change_next}
use Rattle.cg_netlist_builder.proofs.order.renumber_cells.Goals as goal

pub loop-cell-preserved : goal.loop-cell-preserved
loop-cell-preserved c =
    let now = c.loop-cell.cells in
    let i = c.loop-cell.cell-index in
    let x = get_or now i c.cell-item.result in
    let at : slice_get now i ≡ Some x = slice_get-get_or now i c.cell-item.result (omega arith) in
    ap (slice_set now i) c.renumber_cell.ensures ∙ change_next (map_cell (number_in c.args.places.now)) c.args.cells.now now i x c.loop-cell.invariant at
