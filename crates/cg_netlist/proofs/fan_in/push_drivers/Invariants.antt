use Rattle.std.proofs.Common.{◌≡◌, ◌++◌, take}
use Rattle.cg_netlist.specs.inner.Ranking.{drivers_at}
use Rattle.cg_netlist.proofs.fan_in.push_drivers.Given as goal

abbrev pub invariant-loop-net : goal.invariant-loop-net
invariant-loop-net l = l.above.items ≡ l.fn.above.items ++ drivers_at l.drivers (take l.net-index l.nets)
