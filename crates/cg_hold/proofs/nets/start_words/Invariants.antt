use Rattle.cg_hold.proofs.Layings.{StartsTo}
use Rattle.cg_hold.proofs.nets.start_words.Given as goal

abbrev pub invariant-loop-k : goal.invariant-loop-k
invariant-loop-k l = StartsTo l.machine l.state l.words.items l.k
