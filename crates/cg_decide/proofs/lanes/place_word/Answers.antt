use Rattle.std.proofs.Common.{subst, sym, arith}
use Rattle.cg_decide.specs.inner.Assignments.{IsPlaceWord}
use Rattle.cg_decide.proofs.Assigned.{mask_0, mask_1, mask_2, mask_3, mask_4, mask_5, whole_is}
use Rattle.cg_decide.proofs.lanes.place_word.Goals as goal

pub returns-in-0 : goal.returns-in-0
returns-in-0 c = subst (λ place. IsPlaceWord place c.args.number 0xaaaa_aaaa_aaaa_aaaa) (sym c.in-0.is) (mask_0 c.args.number)

pub returns-in-1 : goal.returns-in-1
returns-in-1 c = subst (λ place. IsPlaceWord place c.args.number 0xcccc_cccc_cccc_cccc) (sym c.in-1.is) (mask_1 c.args.number)

pub returns-in-2 : goal.returns-in-2
returns-in-2 c = subst (λ place. IsPlaceWord place c.args.number 0xf0f0_f0f0_f0f0_f0f0) (sym c.in-2.is) (mask_2 c.args.number)

pub returns-in-3 : goal.returns-in-3
returns-in-3 c = subst (λ place. IsPlaceWord place c.args.number 0xff00_ff00_ff00_ff00) (sym c.in-3.is) (mask_3 c.args.number)

pub returns-in-4 : goal.returns-in-4
returns-in-4 c = subst (λ place. IsPlaceWord place c.args.number 0xffff_0000_ffff_0000) (sym c.in-4.is) (mask_4 c.args.number)

pub returns-in-5 : goal.returns-in-5
returns-in-5 c = subst (λ place. IsPlaceWord place c.args.number 0xffff_ffff_0000_0000) (sym c.in-5.is) (mask_5 c.args.number)

pub returns-in_default : goal.returns-in_default
returns-in_default c = whole_is c.args.place c.args.number c.same_word.result (omega arith) c.same_word.ensures
