use Rattle.std.proofs.Common.{◌≡◌, ◌++◌, take}
use Rattle.std.specs.List.{flat_map}
use Rattle.cg_blif_out.specs.Writing.{cell_text}
use Rattle.cg_blif_out.proofs.text.push_cells.Given as goal

abbrev pub invariant-cells : goal.invariant-cells
invariant-cells l = l.out.items ≡ l.fn.out.items ++ flat_map (cell_text l.netlist.names) (take l.number l.netlist.cells)
