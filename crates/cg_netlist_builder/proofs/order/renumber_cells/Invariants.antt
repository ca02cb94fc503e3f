use Rattle.std.proofs.Common.{◌≡◌}
use Rattle.cg_netlist.specs.Wiring.{map_cell}
use Rattle.cg_netlist_builder.specs.inner.Renumbering.{number_in}
use Rattle.cg_netlist_builder.proofs.InPlace.{changed_before}
use Rattle.cg_netlist_builder.proofs.order.renumber_cells.Given as goal

abbrev pub invariant-loop-cell : goal.invariant-loop-cell
invariant-loop-cell l = l.cells ≡ changed_before (map_cell (number_in l.places)) l.fn.cells l.cell-index
