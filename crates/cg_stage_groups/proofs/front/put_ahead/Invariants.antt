use Rattle.cg_stage_groups.specs.inner.Front.{AreAmong}
use Rattle.cg_stage_groups.proofs.front.put_ahead.Given as goal

abbrev pub invariant-loop-place : goal.invariant-loop-place
invariant-loop-place l = AreAmong l.ahead.items l.found
