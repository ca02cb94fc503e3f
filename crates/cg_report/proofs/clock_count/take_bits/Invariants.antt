use Rattle.std.proofs.Common.{◌≡◌, ◌++◌, map, take, drop}
use Rattle.cg_netlist.specs.Moment.{bit}
use Rattle.cg_report.specs.declared.clock_count.ClockNet.{ClockNet}
use Rattle.cg_report.specs.inner.ClockCounting.{with_bit}
use Rattle.cg_report.proofs.clock_count.take_bits.Given as goal

abbrev pub invariant-loop-clock : goal.invariant-loop-clock
invariant-loop-clock l =
    l.clocks ≡ map (λ (clock : ClockNet). with_bit clock (bit l.nets clock.net)) (take l.clock-index l.fn.clocks) ++ drop l.clock-index l.fn.clocks
