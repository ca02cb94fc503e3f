use Rattle.std.proofs.Common.{◌*◌}
use Rattle.cg_decide.specs.inner.Assignments.{IsZeroBelow}
use Rattle.cg_decide.proofs.exhaustive.Exhaustive.find.Given as goal

abbrev pub invariant-loop-number : goal.invariant-loop-number
invariant-loop-number l = IsZeroBelow l.aig l.goal (256 * l.number)
