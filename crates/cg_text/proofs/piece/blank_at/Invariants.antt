use Rattle.std.proofs.Common.{◌≡◌, ℕ, ◌<◌, false, slice_index}
use Rattle.cg_text.specs.Blanks.{is_blank}
use Rattle.cg_text.proofs.piece.blank_at.Given as goal

abbrev pub invariant-loop-at : goal.invariant-loop-at
invariant-loop-at l = (k : ℕ) → k < l.at → is_blank l.blanks (slice_index l.text k) ≡ false
