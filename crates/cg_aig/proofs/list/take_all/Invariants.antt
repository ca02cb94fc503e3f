use Rattle.std.proofs.Common.{length}
use Rattle.cg_aig.proofs.list.take_all.Given as goal

abbrev pub decreases-pairs : goal.decreases-pairs
decreases-pairs l = length l.pairs.keys
