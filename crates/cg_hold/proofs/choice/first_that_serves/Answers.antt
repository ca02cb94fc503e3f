use Rattle.std.proofs.Common.{◌≡◌, ◌+◌, Some, Result, Ok, Err, slice_get, slice_index_or, drop, rules, refl, sym, ◌∙◌, ap, subst}
use Rattle.std.proofs.lemmas.List.{drop_all}
use Rattle.std.proofs.lemmas.Option.{slice_get_read}
use Rattle.cg_limit.specs.Answers.{OrNoMemory}
use Rattle.cg_machine.specs.Claims.{Literal}
use Rattle.cg_netlist.specs.declared.fault.AddFault.{AddFault}
use Rattle.cg_netlist.specs.declared.fault.AddFault.TheVariants.{NoMemory}
use Rattle.cg_hold.specs.declared.choice.Choice.{Choice}
use Rattle.cg_hold.specs.declared.trial.Trial.{Trial}
use Rattle.cg_hold.specs.inner.Choosing.{choice_by, trial_of}
use Rattle.cg_hold.proofs.Room.{holding_narrow}
use Rattle.cg_hold.proofs.Trials.{drop_at, err_choice, front_fails, front_serves, front_wide, none_left}
use Rattle.cg_hold.proofs.choice.first_that_serves.Goals as goal

pub returns-in_err-look_at : goal.returns-in_err-look_at
returns-in_err-look_at c =
    let look = c.args.look.now in
    let m = look.search.now.machine.now in
    let w = look.search.now.width in
    let literals = look.literals.now in
    let i = c.loop-place.place in
    let l = c.index-look-place.result in
    let at : slice_get literals i ≡ Some l = slice_get_read literals _ i l refl c.loop-place-test.true c.index-look-place.is in
    let same : c.from_residual.result ≡ Err c.in_err-look_at.field-0.0 = search rules in
    subst (λ (z : Result Choice AddFault). OrNoMemory NoMemory (λ (t : Choice). t) z (choice_by m w look.reg literals)) (sym same)
    (err_choice m w look.reg literals i l at c.loop-place.invariant.left c.in_err-look_at.field-0.0 (c.in_err-look_at.ensures.trial l at))

pub returns-in-TooWide : goal.returns-in-TooWide
returns-in-TooWide c =
    let look = c.args.look.now in
    let m = look.search.now.machine.now in
    let w = look.search.now.width in
    let literals = look.literals.now in
    let i = c.loop-place.place in
    let l = c.index-look-place.result in
    let at : slice_get literals i ≡ Some l = slice_get_read literals _ i l refl c.loop-place-test.true c.index-look-place.is in
    sym c.loop-place.invariant.left ∙ (ap (choice_by m w look.reg) (drop_at literals i l at) ∙ front_wide m w look.reg l (drop (i + 1) literals) (subst (λ (z : Trial). trial_of m w look.reg l ≡ Ok z) c.in-TooWide.is (c.in_ok-look_at.ensures.trial l at)))

pub returns-in-Serves : goal.returns-in-Serves
returns-in-Serves c =
    let look = c.args.look.now in
    let m = look.search.now.machine.now in
    let w = look.search.now.width in
    let literals = look.literals.now in
    let i = c.loop-place.place in
    let l = c.index-look-place.result in
    let k = slice_index_or literals i l in
    let at : slice_get literals i ≡ Some k = slice_get_read literals _ i l refl c.loop-place-test.true c.index-look-place.is ∙ ap (λ (z : Literal). Some z) c.index-look-place.is in
    sym c.loop-place.invariant.left ∙ (ap (choice_by m w look.reg) (drop_at literals i k at) ∙ front_serves m w look.reg k (drop (i + 1) literals) (subst (λ (z : Trial). trial_of m w look.reg k ≡ Ok z) c.in-Serves.is (c.in_ok-look_at.ensures.trial k at)))

pub loop-place-preserved : goal.loop-place-preserved
loop-place-preserved c =
    let look = c.args.look.now in
    let m = look.search.now.machine.now in
    let w = look.search.now.width in
    let literals = look.literals.now in
    let i = c.loop-place.place in
    let l = c.index-look-place.result in
    let at : slice_get literals i ≡ Some l = slice_get_read literals _ i l refl c.loop-place-test.true c.index-look-place.is in
    let step = front_fails m w look.reg l (drop (i + 1) literals) (subst (λ (z : Trial). trial_of m w look.reg l ≡ Ok z) c.in-Fails.is (c.in_ok-look_at.ensures.trial l at)) in
    record {
      marks = c.in_ok-look_at.ensures.marks;
      holding = c.in_ok-look_at.ensures.holding;
      left = sym (sym c.loop-place.invariant.left ∙ (ap (choice_by m w look.reg) (drop_at literals i l at) ∙ step.0));
    }

pub returns : goal.returns
returns c =
    let look = c.args.look.now in
    let m = look.search.now.machine.now in
    let w = look.search.now.width in
    let literals = look.literals.now in
    let i = c.loop-place.place in
    sym c.loop-place.invariant.left
    ∙ (ap (choice_by m w look.reg) (drop_all i literals c.loop-place-test.false)
    ∙ none_left m w look.reg (holding_narrow m look.reg w c.loop-place.trier.claims c.loop-place.invariant.holding))
