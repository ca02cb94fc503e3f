use Rattle.std.proofs.Common.{length}
use Rattle.cg_sat.specs.inner.Learn.{AreClear}
use Rattle.cg_sat.proofs.learn.last_marked.Given as goal

abbrev pub invariant-loop-at : goal.invariant-loop-at
invariant-loop-at l = AreClear l.marks l.trail l.at (length l.trail)
