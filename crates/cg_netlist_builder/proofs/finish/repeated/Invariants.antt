use Rattle.std.proofs.Common.{take}
use Rattle.cg_netlist_builder.proofs.MarkLemmas.{HasCounted}
use Rattle.cg_netlist_builder.proofs.finish.repeated.Given as goal

abbrev pub invariant-loop-net : goal.invariant-loop-net
invariant-loop-net l = HasCounted l.once.items l.twice.items l.count (take l.net-index l.nets)
