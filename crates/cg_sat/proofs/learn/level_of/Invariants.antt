use Rattle.std.proofs.Common.{◌+◌}
use Rattle.cg_sat.specs.inner.Learn.{AreImplied}
use Rattle.cg_sat.proofs.learn.level_of.Given as goal

abbrev pub invariant-loop-at : goal.invariant-loop-at
invariant-loop-at l = AreImplied l.trail l.at (l.top + 1)
