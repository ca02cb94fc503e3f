use Rattle.std.proofs.Common.{drop}
use Rattle.cg_net.proofs.NetSetLemmas.{MarkedLeft}
use Rattle.cg_net.proofs.net_set.unmark.Given as goal

abbrev pub invariant-loop-net : goal.invariant-loop-net
invariant-loop-net l = MarkedLeft l.nets l.marks (drop l.net-index l.nets)
