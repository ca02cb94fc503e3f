use Rattle.std.proofs.Common.{◌≡◌, ◌++◌, [], map, take}
use Rattle.cg_netlist.specs.Circuit.{gater_outputs}
use Rattle.cg_report.specs.inner.ClockCounting.{kept}
use Rattle.cg_report.proofs.clock_count.push_gaters.Given as goal

abbrev pub invariant-loop-gater : goal.invariant-loop-gater
invariant-loop-gater l = l.clocks.items ≡ l.fn.clocks.items ++ map (kept l.netlist []) (take l.gater (gater_outputs l.netlist))
