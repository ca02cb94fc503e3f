use Rattle.cg_claim.specs.Reach.{inputs_of_register}
use Rattle.cg_stage_groups.specs.inner.Front.{IsFront}
use Rattle.cg_stage_groups.specs.inner.Met.{AreMet}
use Rattle.cg_stage_groups.proofs.early.meets_more.Given as goal

abbrev pub invariant-loop : goal.invariant-loop
invariant-loop l = record {
  front : IsFront l.machine (inputs_of_register l.machine l.fn.reg) l.front.found l.front.ahead.items;
  met : AreMet l.machine l.fn.reg l.met.inputs.keys l.met.registers.keys;
}
