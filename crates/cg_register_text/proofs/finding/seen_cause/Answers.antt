use Rattle.std.proofs.Common.{◌≡◌, slice_get, ap, sym, ◌∙◌}
use Rattle.std.proofs.lemmas.Option.{same_Some}
use Rattle.cg_register_text.specs.Causes.{Tried, is_given}
use Rattle.cg_register_text.specs.Words.{GatedData, tried_of}
use Rattle.cg_register_text.specs.inner.Finding.{cause_seen}
use Rattle.cg_register_text.specs.inner.Seeing.{seen_of}
use Rattle.cg_register_text.proofs.finding.seen_cause.Goals as goal

pub returns : goal.returns
returns c =
    let t : Tried = tried_of c.args.told.now in
    let r = c.args.reg in
    let hints : c.seen_at-hints.result.now ≡ seen_of t.hints r =
    same_Some c.seen_at-hints.result.now (seen_of t.hints r) (sym c.seen_at-hints.ensures ∙ (ap (λ l. slice_get l r) c.deref.ensures.value ∙ c.requires.tables.hints.each r c.requires.register)) in
    let stages : c.seen_at-stages.result.now ≡ seen_of t.stages r =
    same_Some c.seen_at-stages.result.now (seen_of t.stages r) (sym c.seen_at-stages.ensures ∙ (ap (λ l. slice_get l r) c.deref-2.ensures.value ∙ c.requires.tables.stages.each r c.requires.register)) in
    let given : c.is_given-given.result ≡ is_given t.read r = c.is_given-given.ensures ∙ ap (λ (g : GatedData). is_given g.read r) c.told.view_is in
    c.cause_seen.ensures
    ∙ (ap (λ h. cause_seen h c.seen_at-stages.result.now c.is_given-given.result) hints
    ∙ (ap (λ s. cause_seen (seen_of t.hints r) s c.is_given-given.result) stages
    ∙ ap (cause_seen (seen_of t.hints r) (seen_of t.stages r)) given))
