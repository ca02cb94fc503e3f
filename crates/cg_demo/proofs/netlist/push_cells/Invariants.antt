use Rattle.std.proofs.Common.{◌≡◌, ◌++◌}
use Rattle.cg_demo.specs.Pipeline.{cell_lines, each}
use Rattle.cg_demo.proofs.netlist.push_cells.Given as goal

abbrev pub invariant-places : goal.invariant-places
invariant-places l = l.text.items ≡ l.fn.text.items ++ each l.i cell_lines
