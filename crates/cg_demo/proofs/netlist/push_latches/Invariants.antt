use Rattle.std.proofs.Common.{◌≡◌, ◌++◌}
use Rattle.cg_demo.specs.Pipeline.{latch_lines}
use Rattle.cg_demo.proofs.netlist.push_latches.Given as goal

abbrev pub invariant-registers : goal.invariant-registers
invariant-registers l = l.text.items ≡ l.fn.text.items ++ latch_lines l.i l.input l.output
