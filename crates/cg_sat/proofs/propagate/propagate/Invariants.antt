use Rattle.std.proofs.Common.{◌-◌}
use Rattle.cg_sat.specs.inner.Search.{Grows}
use Rattle.cg_sat.proofs.propagate.propagate.Given as goal

abbrev pub invariant-queue : goal.invariant-queue
invariant-queue l = Grows l.count l.clauses l.fn.trail l.trail

abbrev pub decreases-queue : goal.decreases-queue
decreases-queue l = l.count - l.guide.taken
