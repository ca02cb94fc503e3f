use Rattle.std.proofs.Common.{◌-◌, ◌^◌}
use Rattle.cg_stage_groups.specs.inner.Reaching.{IsReached}
use Rattle.cg_stage_groups.proofs.cone.cone.Given as goal

abbrev pub invariant-loop-next : goal.invariant-loop-next
invariant-loop-next l = IsReached l.machine l.roots l.next l.found

abbrev pub decreases-loop-next : goal.decreases-loop-next
decreases-loop-next l = 2 ^ 64 - l.next
