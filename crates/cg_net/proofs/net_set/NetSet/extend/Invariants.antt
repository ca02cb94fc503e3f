use Rattle.std.proofs.Common.{◌≡◌, drop}
use Rattle.cg_net.specs.NetSets.{with_nets}
use Rattle.cg_net.proofs.net_set.NetSet.extend.Given as goal

abbrev pub invariant-loop-net : goal.invariant-loop-net
invariant-loop-net l = with_nets l.self (drop l.net-index l.nets) ≡ with_nets l.initial.self l.nets
