-- Each cause says of its register what it is to say, and the plan's machine gives the same causes.
use Rattle.std.proofs.Common.{◌≡◌, ℕ, ◌<◌, Bool, true, false, if◌then◌else◌, List, [], ◌∷◌, length, nat_lt, Option, None, Some, unwrap_or, refl, sym, ap, ◌∙◌, subst, arith}
use Rattle.cg_cell.specs.Cell.{CellData}
use Rattle.cg_extract.specs.Lifted.{bare}
use Rattle.cg_hint_laws.specs.declared.hint.Hint.{Hint}
use Rattle.cg_plan_laws.specs.declared.settings.Settings.{Settings}
use Rattle.cg_stage_list_laws.specs.HoldList.{hold_width}
use Rattle.cg_stage_list_laws.specs.Literals.{ZeroCounts}
use Rattle.cg_register_text.specs.Causes.{is_given}
use Rattle.cg_register_text.specs.declared.cause.Cause.TheVariants.{Wide}
use Rattle.cg_register_text.specs.Laws.{CausesMean, IsRightCourse, WidthsAreKept}
use Rattle.cg_register_text.specs.Meaning.{Course, Means, tried_in}
use Rattle.cg_register_text.specs.Trials.{givers, last_failed}
use Rattle.cg_register_text.specs.inner.Finding.{cause_by_width, cause_seen, or_free}
use Rattle.cg_register_text.proofs.CausesShown.{began_none, free_shown, gated_by_hints, gated_by_stages, given_shown, hint_shown, stage_shown, ungated, wide_shown}
use Rattle.cg_register_text.proofs.CourseFacts.{began_of, ended_of}
use Rattle.cg_register_text.proofs.Found.{cause_found}
use Rattle.cg_register_text.proofs.LiftedFacts.{bare_driven, bare_used}
use Rattle.cg_register_text.proofs.OwnWidths.{widths_same}

module _ (library : List CellData) (settings : Settings) (counts : Option ZeroCounts) (prefix : List ℕ) (hints : List Hint) (w : Course) (right : IsRightCourse library settings counts prefix hints w) (r : ℕ) (below : r < length w.read.registers) where
  -- by what was tried for it
  by_parts : (hg sg : List ℕ) (hf sf : Option ℕ) (given wide : Bool) → givers (tried_in w).hints r ≡ hg → givers (tried_in w).stages r ≡ sg → last_failed (tried_in w).hints r ≡ hf → last_failed (tried_in w).stages r ≡ sf
      → is_given w.read r ≡ given → nat_lt w.width (hold_width w.began r) ≡ wide
      → Means w r (unwrap_or (cause_seen (record { givers = hg; failed = hf }) (record { givers = sg; failed = sf }) given) (if wide then Wide (hold_width w.began r) else or_free hf))
  by_parts (h ∷ hg) [] hf sf given wide hints_gave none hint stage gated width = gated_by_hints library settings counts prefix hints w right r below h hg hints_gave none
  by_parts (h ∷ hg) (s ∷ sg) hf sf given wide hints_gave stages_gave hint stage gated width = gated_by_stages library settings counts prefix hints w right r below s sg stages_gave
  by_parts [] (s ∷ sg) hf sf given wide none stages_gave hint stage gated width = gated_by_stages library settings counts prefix hints w right r below s sg stages_gave
  by_parts [] [] hf (Some n) given wide no_hint no_stage hint stage gated width = stage_shown library settings counts prefix hints w right r below no_hint no_stage n stage
  by_parts [] [] hf None true wide no_hint no_stage hint stage gated width = given_shown library settings counts prefix hints w right r below no_hint no_stage stage gated
  by_parts [] [] hf None false true no_hint no_stage hint stage gated width = wide_shown library settings counts prefix hints w right r below no_hint no_stage stage gated width
  by_parts [] [] (Some n) None false false no_hint no_stage hint stage gated width = hint_shown library settings counts prefix hints w right r below no_hint no_stage stage gated width n hint
  by_parts [] [] None None false false no_hint no_stage hint stage gated width = free_shown library settings counts prefix hints w right r below no_hint no_stage stage gated width hint

  -- where it is measured it has no enable on either machine
  same_widths : (hg sg : List ℕ) (hf sf : Option ℕ) (given : Bool) → givers (tried_in w).hints r ≡ hg → givers (tried_in w).stages r ≡ sg → last_failed (tried_in w).stages r ≡ sf → is_given w.read r ≡ given
      → unwrap_or (cause_seen (record { givers = hg; failed = hf }) (record { givers = sg; failed = sf }) given) (cause_by_width w.width hf (hold_width w.ended r))
      ≡ unwrap_or (cause_seen (record { givers = hg; failed = hf }) (record { givers = sg; failed = sf }) given) (cause_by_width w.width hf (hold_width w.began r))
  same_widths (h ∷ hg) sg hf sf given no_hint no_stage stage gated = refl
  same_widths [] (s ∷ sg) hf sf given no_hint no_stage stage gated = refl
  same_widths [] [] hf (Some n) given no_hint no_stage stage gated = refl
  same_widths [] [] hf None true no_hint no_stage stage gated = refl
  same_widths [] [] hf None false no_hint no_stage stage gated =
      let began = began_of library settings counts prefix hints w right in
      let ended = ended_of library settings counts prefix hints w right in
      let driven = bare_driven w.read prefix right.extracts in
      let used = bare_used w.read prefix right.extracts in
      ap (cause_by_width w.width hf)
      (widths_same w.began w.ended began.good ended.good (bare w.read) began.netlist ended.netlist driven used r
      (let own = began.own in omega (arith, below, own)) (let own = ended.own in omega (arith, below, own))
      (began_none library settings counts prefix hints w right r below no_hint no_stage stage gated)
      (ungated library settings counts prefix hints w right r below no_hint no_stage stage gated).none)

pub causes_mean : CausesMean
causes_mean library settings counts prefix hints w right r below =
    subst (Means w r) (cause_found (tried_in w) r)
    (by_parts library settings counts prefix hints w right r below (givers (tried_in w).hints r) (givers (tried_in w).stages r) (last_failed (tried_in w).hints r)
    (last_failed (tried_in w).stages r) (is_given w.read r) (nat_lt w.width (hold_width w.began r)) refl refl refl refl refl refl)

pub widths_are_kept : WidthsAreKept
widths_are_kept library settings counts prefix hints w right r below =
    sym (cause_found (record (tried_in w) { began = w.ended }) r)
    ∙ (same_widths library settings counts prefix hints w right r below (givers (tried_in w).hints r) (givers (tried_in w).stages r) (last_failed (tried_in w).hints r)
    (last_failed (tried_in w).stages r) (is_given w.read r) refl refl refl refl
    ∙ cause_found (tried_in w) r)
