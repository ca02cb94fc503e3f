use Rattle.std.proofs.Common.{ℕ, ◌≡◌, vec_len}
use Rattle.cg_hold_widths.specs.inner.Masks.{mask_at}
use Rattle.cg_hold_widths.proofs.masks.reach.Given as goal

abbrev pub invariant-loop : goal.invariant-loop
invariant-loop l = (vec_len l.masks ≡ l.counter) × ((y : ℕ) → mask_at l.masks.items y ≡ mask_at l.fn.masks.items y)
