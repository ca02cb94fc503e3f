use Rattle.std.proofs.Common.{◌≡◌, ◌+◌, ◌<◌, take, drop, length, sym, ◌∙◌, ap, subst, Some, arith}
use Rattle.std.proofs.lemmas.List.{take_all}
use Rattle.std.proofs.lemmas.Option.{slice_get-get_or}
use Rattle.cg_netlist.proofs.Values.{length-zip_with, zip_with_at}
use Rattle.cg_report.proofs.PlayedOn.{take_front}
use Rattle.cg_hint_laws.specs.Trying.{is_inserted}
use Rattle.cg_hint_laws.specs.declared.hint.Hint.{Hint}
use Rattle.cg_register_text.specs.inner.Seeing.{AreNoted, AreSeen}
use Rattle.cg_register_text.specs.Trials.{hint_trial, hint_trials}
use Rattle.cg_register_text.proofs.SeenTrials.{seen_on}
use Rattle.cg_register_text.proofs.seen.seen_in_hints.Goals as goal

pub hints-preserved : goal.hints-preserved
hints-preserved c =
    let hints = c.args.hints.now in
    let outcomes = c.args.outcomes.now in
    let k = c.hints.place in
    let h = c.index-hints-place.result in
    let o = c.index-outcomes-place.result in
    let more = c.note_all.new.seen in
    let inside : k < length outcomes = omega (arith, c.hints-test.true, c.requires) in
    let at = zip_with_at hint_trial hints outcomes k h o (slice_get-get_or hints k h c.hints-test.true ∙ ap Some (sym c.index-hints-place.is)) (slice_get-get_or outcomes k o inside ∙ ap Some (sym c.index-outcomes-place.is)) in
    let noted : AreNoted h.regs (k + 1) (is_inserted o) c.hints.seen.items more =
    subst (λ regs. AreNoted regs (k + 1) (is_inserted o) c.hints.seen.items more) (c.as_slice-regs.ensures.parts ∙ ap (λ (x : Hint). x.regs) (sym c.index-hints-place.is))
    (subst (λ b. AreNoted c.as_slice-regs.result.now (k + 1) b c.hints.seen.items more) c.is_inserted-inserted.ensures
    (subst (λ old. AreNoted c.as_slice-regs.result.now (k + 1) c.is_inserted-inserted.result old more) c.deref_mut.ensures.value c.in_ok-note_all.ensures)) in
    let long : length more ≡ c.hints.seen.len = c.note_all.auto.seen ∙ c.deref_mut.ensures.len in
    subst (AreSeen c.args.registers (take (k + 1) (hint_trials hints outcomes))) (sym (take_front c.hints.seen.len more (drop (length more) c.hints.seen.items) long))
    (seen_on c.args.registers k (hint_trials hints outcomes) (hint_trial h o) c.hints.seen.items more at c.hints.invariant noted)

pub returns : goal.returns
returns c =
    let hints = c.args.hints.now in
    let outcomes = c.args.outcomes.now in
    let long : length (hint_trials hints outcomes) ≡ length hints = length-zip_with hint_trial hints outcomes c.requires in
    subst (λ l. AreSeen c.args.registers l c.hints.seen.items) (take_all c.hints.place (hint_trials hints outcomes) (omega (arith, long, c.hints-test.false))) c.hints.invariant
