use Rattle.std.proofs.Common.{false, is_none}
use Rattle.std.specs.Option.{option_map_or}
use Rattle.cg_net.specs.Marks.{AreMarksOf}
use Rattle.cg_netlist.specs.inner.Ranking.{entry}
use Rattle.cg_netlist.proofs.cycles.unranked.Given as goal

abbrev pub invariant-loop-net : goal.invariant-loop-net
invariant-loop-net l = AreMarksOf l.marks.items l.net (λ net. option_map_or (λ k. is_none (entry l.ranks k)) (entry l.drivers net) false)
