use Rattle.std.proofs.Common.{◌-◌, length}
use Rattle.cg_decide.proofs.decision.fit.Given as goal

abbrev pub decreases-more : goal.decreases-more
decreases-more l = l.count - length l.values.items
