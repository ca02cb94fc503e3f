use Rattle.std.proofs.Common.{◌≡◌, ℕ, true, slice_get, get_or, Option, Some, None, is_none, unwrap_or, ap, sym, ◌∙◌}
use Rattle.std.proofs.lemmas.Option.{get_or_from_slice_get, same_Some}
use Rattle.cg_stage_list_laws.specs.HoldList.{hold_width}
use Rattle.cg_register_text.specs.Causes.{Tried}
use Rattle.cg_register_text.specs.Trials.{last_failed}
use Rattle.cg_register_text.specs.Words.{GatedData, tried_of}
use Rattle.cg_register_text.specs.declared.cause.Cause.{Cause}
use Rattle.cg_register_text.specs.declared.seen.Seen.{Seen}
use Rattle.cg_register_text.specs.inner.Finding.{cause_by_width, is_measured, seen_cause}
use Rattle.cg_register_text.specs.inner.Seeing.{seen_of}
use Rattle.cg_register_text.proofs.Found.{cause_found}
use Rattle.cg_register_text.proofs.finding.cause.Goals as goal

pub returns-in-Some-clause-cause : goal.returns-in-Some-clause-cause
returns-in-Some-clause-cause c =
    let t : Tried = tried_of c.args.told.now in
    let r : ℕ = c.args.reg in
    let seen : Some c.in-Some.cause ≡ seen_cause t r = sym c.in-Some.is ∙ c.seen_cause.ensures in
    ap (λ o. unwrap_or o (cause_by_width t.width (last_failed t.hints r) (hold_width t.began r))) seen ∙ cause_found t r

pub returns-in-None-clause-cause : goal.returns-in-None-clause-cause
returns-in-None-clause-cause c =
    let t : Tried = tried_of c.args.told.now in
    let r : ℕ = c.args.reg in
    let failed : Option ℕ = c.seen_at-hints.result.now.failed in
    let read : ℕ = get_or c.args.widths.now c.args.next.now 0 in
    let none : ◌≡◌ {A = Option Cause} None (seen_cause t r) = sym c.in-None.is ∙ c.seen_cause.ensures in
    let on : is_measured t r ≡ true = ap is_none (sym none) in
    let hints : c.seen_at-hints.result.now ≡ seen_of t.hints r =
    same_Some c.seen_at-hints.result.now (seen_of t.hints r) (sym c.seen_at-hints.ensures ∙ (ap (λ l. slice_get l r) c.deref.ensures.value ∙ c.requires.tables.hints.each r c.requires.register)) in
    let most : c.told.inside.width ≡ t.width = ap (λ (g : GatedData). g.width) c.told.view_is in
    let width : read ≡ hold_width t.began r = get_or_from_slice_get c.args.widths.now c.args.next.now (hold_width t.began r) 0 (c.requires.width on) in
    c.cause_by_width.ensures
    ∙ (ap (λ w. cause_by_width w failed read) most
    ∙ (ap (λ (s : Seen). cause_by_width t.width s.failed read) hints
    ∙ (ap (cause_by_width t.width (last_failed t.hints r)) width
    ∙ (ap (λ o. unwrap_or o (cause_by_width t.width (last_failed t.hints r) (hold_width t.began r))) none ∙ cause_found t r))))
