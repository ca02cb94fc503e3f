use Rattle.std.proofs.Common.{◌≡◌, ◌++◌, take}
use Rattle.std.specs.List.{flat_map}
use Rattle.cg_netlist_builder.proofs.parts.add_cell_inputs.Given as goal

abbrev pub invariant-loop-cell : goal.invariant-loop-cell
invariant-loop-cell l = l.nets.items ≡ l.fn.nets.items ++ flat_map (λ cell. cell.inputs) (take l.cell-index l.cells)
