-- A hold stage of one register fits a machine in which the register has no enable.
use Rattle.std.proofs.Common.{◌≡◌, ℕ, ◌<◌, false, List, [], ◌∷◌, nat_eq, None, refl, sym, ◌∙◌, ap, subst, arith}
use Rattle.std.proofs.lemmas.Bool.{both_ways}
use Rattle.cg_machine.proofs.Lists.{in_one}
use Rattle.cg_machine.specs.Machine.{IsNet, MachineData, enable_of}
use Rattle.cg_net.proofs.Members.{distinct_cons}
use Rattle.std.specs.List.{IsDistinct}
use Rattle.cg_stage_laws.specs.Stages.{Fits}
use Rattle.cg_stage_list_laws.specs.HoldList.{hold_stage}

none_once : IsDistinct nat_eq []
unfolding IsDistinct
none_once = tt

pub one_fits : (m : MachineData) (net r : ℕ) → IsNet m net → r < m.own_registers → enable_of m r ≡ None → Fits m (hold_stage (net, false) (r ∷ []))
one_fits m net r is own free = record {
  registers = λ q among. subst (λ k. k < m.own_registers) (sym (in_one q r among)) own;
  distinct = distinct_cons r [] refl none_once;
  some = omega arith;
  enabled = omega arith;
  nets = λ y among. subst (IsNet m) (sym (in_one y net among)) is;
  own = λ q among. ap (enable_of m) (in_one q r among) ∙ free;
  guards = λ q among. absurd (both_ways false refl among);
  apart = λ q among. absurd (both_ways false refl among);
  kind = (refl, refl, refl);
}
