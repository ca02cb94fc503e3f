use Rattle.std.proofs.Common.{◌≡◌, ℕ, List, Option, Some, None, sym, ap, ◌∙◌, subst}
use Rattle.cg_blif_text.specs.BlifText.{told_by}
use Rattle.cg_blif_text.specs.LogicalLines.{text_lines}
use Rattle.cg_blif_text.specs.Telling.{go_on, tell_clock, tell_lines}
use Rattle.cg_blif_text.specs.declared.fault.BlifFault.{BlifFault}
use Rattle.cg_blif.specs.Resuming.{IsFaultOf, IsNamedClock, told_of}
use Rattle.cg_blif.proofs.ReadingLemmas.{clock_refused, clock_told, fault_along}
use Rattle.cg_blif.proofs.reader.tell.Goals as goal

pub returns-in-None : goal.returns-in-None
returns-in-None c =
    let lines = tell_lines c.args.library.now (text_lines c.args.text.now) in
    let N : Option (List ℕ) → Type 0 = λ o. IsNamedClock o in (
      c.in_ok-reading.ensures.0,
      subst N (sym c.in-None.is) tt,
      (c.in_ok-reading.reading.place, ap (λ o. go_on lines (tell_clock o)) c.in-None.is ∙ ap (λ r. go_on r (tell_clock None)) c.in_ok-reading.ensures.1),
    )

pub returns-in-Ok : goal.returns-in-Ok
returns-in-Ok c =
    let lines = tell_lines c.args.library.now (text_lines c.args.text.now) in
    let b = c.in_ok-reading.reading.builder in
    let place = c.in_ok-reading.reading.place in
    let net = c.bytes.result.now in
    let clock : c.args.options.now.clock ≡ Some net = c.in-Some.is ∙ ap Some (sym c.bytes.ensures.bytes) in
    let N : Option (List ℕ) → Type 0 = λ o. IsNamedClock o in (
      c.in-Ok.ensures.0,
      subst N (sym c.in-Some.is) (c.bytes.ensures.name, tt),
      (
        place,
        ap (λ o. go_on lines (tell_clock o)) clock ∙ (ap (λ r. go_on r (tell_clock (Some net))) c.in_ok-reading.ensures.1 ∙ clock_told place b c.add_clock.new.builder net c.in-Ok.ensures.1 c.in-Ok.ensures.2),
      ),
    )

pub returns : goal.returns
returns c =
    let lines = tell_lines c.args.library.now (text_lines c.args.text.now) in
    let b = c.in_ok-reading.reading.builder in
    let place = c.in_ok-reading.reading.place in
    let net = c.bytes.result.now in
    let clock : c.args.options.now.clock ≡ Some net = c.in-Some.is ∙ ap Some (sym c.bytes.ensures.bytes) in
    let told : told_by c.args.library.now c.args.options.now.clock c.args.text.now ≡ tell_clock (Some net) (told_of place b) =
    ap (λ o. go_on lines (tell_clock o)) clock ∙ ap (λ r. go_on r (tell_clock (Some net))) c.in_ok-reading.ensures.1 in
    let F : BlifFault → Type 0 = λ fault. IsFaultOf (told_by c.args.library.now c.args.options.now.clock c.args.text.now) fault in
    subst F (sym c.at_line.ensures)
    (fault_along (tell_clock (Some net) (told_of place b)) (told_by c.args.library.now c.args.options.now.clock c.args.text.now) _ (sym told) (clock_refused (told_of place b) net c.add_clock.new.builder b c.in-Err.refusal c.in-Err.ensures))
