use Rattle.std.proofs.Common.{◌≡◌, ◌+◌, take, drop, length, slice_get, sym, ◌∙◌, ap, subst, Some}
use Rattle.std.specs.Option.{option_map}
use Rattle.std.proofs.lemmas.Option.{slice_get-get_or, slice_get-map}
use Rattle.cg_report.proofs.PlayedOn.{take_front}
use Rattle.cg_plan_laws.specs.Plan.{is_inserted}
use Rattle.cg_register_text.specs.inner.Seeing.{AreNoted, AreSeen}
use Rattle.cg_register_text.specs.Trials.{stage_trial, stage_trials}
use Rattle.cg_register_text.proofs.SeenTrials.{seen_on}
use Rattle.cg_register_text.proofs.seen.seen_in_stages.Goals as goal

pub stages-preserved : goal.stages-preserved
stages-preserved c =
    let stages = c.args.stages.now in
    let k = c.stages.place in
    let tried = c.index-stages-place.result in
    let more = c.note_all.new.seen in
    let there : slice_get stages k ≡ Some tried = slice_get-get_or stages k tried c.stages-test.true ∙ ap Some (sym c.index-stages-place.is) in
    let at : slice_get (stage_trials stages) k ≡ Some (stage_trial tried) = slice_get-map stage_trial stages k ∙ ap (option_map stage_trial) there in
    let noted : AreNoted tried.0.regs (k + 1) (is_inserted tried.1) c.stages.seen.items more =
    subst (λ regs. AreNoted regs (k + 1) (is_inserted tried.1) c.stages.seen.items more) c.as_slice-regs.ensures.parts
    (subst (λ b. AreNoted c.as_slice-regs.result.now (k + 1) b c.stages.seen.items more) c.is_inserted-inserted.ensures
    (subst (λ old. AreNoted c.as_slice-regs.result.now (k + 1) c.is_inserted-inserted.result old more) c.deref_mut.ensures.value c.in_ok-note_all.ensures)) in
    let long : length more ≡ c.stages.seen.len = c.note_all.auto.seen ∙ c.deref_mut.ensures.len in
    subst (AreSeen c.args.registers (take (k + 1) (stage_trials stages))) (sym (take_front c.stages.seen.len more (drop (length more) c.stages.seen.items) long))
    (seen_on c.args.registers k (stage_trials stages) (stage_trial tried) c.stages.seen.items more at c.stages.invariant noted)
