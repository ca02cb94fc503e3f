use Rattle.std.proofs.Common.{◌≡◌, ◌++◌, take}
use Rattle.cg_netlist.specs.Wiring.{driven_by_cells}
use Rattle.cg_netlist_builder.proofs.parts.add_cell_outputs.Given as goal

abbrev pub invariant-loop-cell : goal.invariant-loop-cell
invariant-loop-cell l = l.nets.items ≡ l.fn.nets.items ++ driven_by_cells (take l.cell-index l.cells)
