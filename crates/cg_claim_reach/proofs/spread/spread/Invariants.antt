use Rattle.std.proofs.Common.{◌-◌, ◌^◌}
use Rattle.cg_claim_reach.specs.inner.Spreading.{IsSpreading}
use Rattle.cg_claim_reach.proofs.spread.spread.Given as goal

abbrev pub invariant-loop-next : goal.invariant-loop-next
invariant-loop-next l = IsSpreading l.machine l.regs l.next l.found

abbrev pub decreases-loop-next : goal.decreases-loop-next
decreases-loop-next l = 2 ^ 64 - l.next
