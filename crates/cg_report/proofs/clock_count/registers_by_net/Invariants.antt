use Rattle.cg_report.specs.inner.ClockCounting.{AreClocked}
use Rattle.cg_report.proofs.clock_count.registers_by_net.Given as goal

abbrev pub invariant-loop-register : goal.invariant-loop-register
invariant-loop-register l = AreClocked l.netlist l.register l.registers.items
