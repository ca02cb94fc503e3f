use Rattle.cg_claim.specs.Reach.{inputs_of_register}
use Rattle.cg_stage_groups.specs.inner.Front.{IsFront}
use Rattle.cg_stage_groups.proofs.early.meets_free.Given as goal

abbrev pub invariant-loop : goal.invariant-loop
invariant-loop l = IsFront l.machine (inputs_of_register l.machine l.reg) l.front.found l.front.ahead.items
