use Rattle.cg_hold.proofs.MovedInWords.{MovesTo}
use Rattle.cg_hold.proofs.moves.move_words.Given as goal

abbrev pub invariant-loop-k : goal.invariant-loop-k
invariant-loop-k l = MovesTo l.machine l.state l.nets l.moves.items l.k
