-- The fault that a text tells is that of the first line that has one, or else that of the clock of the option.
use Rattle.std.proofs.Common.{◌≡◌, inl, inr, ℕ, List, Option, Result, Ok, Err, refl, ap, ◌∙◌}
use Rattle.cg_cell.specs.Cell.{CellData}
use Rattle.cg_net.specs.Names.{NetName}
use Rattle.cg_blif_text.specs.declared.fault.BlifFault.{BlifFault}
use Rattle.cg_blif_text.specs.BlifText.{HasLineFault, told_by}
use Rattle.cg_blif_text.specs.LogicalLines.{text_lines}
use Rattle.cg_blif_text.specs.Telling.{LinesSaid, go_on, tell_clock, tell_lines}
use Rattle.cg_blif_text.proofs.FirstFaults.{first_is_told, told_is_first}

module _ (library : List CellData) (clock : Option NetName) (text : List ℕ) where
  pub told_has : (fault : BlifFault) → told_by library clock text ≡ Err fault → HasLineFault text library clock fault
  told_has fault is = go (tell_lines library (text_lines text)) refl is
    where
      go : (r : Result LinesSaid BlifFault) → tell_lines library (text_lines text) ≡ r → go_on r (tell_clock clock) ≡ Err fault → HasLineFault text library clock fault
      go (Ok told) before fails = inr (record { told = told; before = before; fails = fails })
      go (Err first) before fails = inl (told_is_first library (text_lines text) fault (before ∙ fails))

  pub has_told : (fault : BlifFault) → HasLineFault text library clock fault → told_by library clock text ≡ Err fault
  has_told fault (inl first) = ap (λ r. go_on r (tell_clock clock)) (first_is_told library (text_lines text) fault first)
  has_told fault (inr has) = ap (λ r. go_on r (tell_clock clock)) has.before ∙ has.fails
