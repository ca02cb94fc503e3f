use Rattle.cg_hold_widths.proofs.Counting.{Counted}
use Rattle.cg_hold_widths.proofs.counts.count.Given as goal

abbrev pub invariant-loop-rest : goal.invariant-loop-rest
invariant-loop-rest l = Counted l.mask l.rest l.fn.counts l.counts

abbrev pub decreases-loop-rest : goal.decreases-loop-rest
decreases-loop-rest l = l.rest
