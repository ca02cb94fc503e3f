-- How many masks have each bit.
use Rattle.std.specs.Prelude.{◌≡◌, ◌<◌, ℕ, Bool, cond, List, length, slice_get, slice_index_or, Some}
use Rattle.std.specs.List.{count_by}
use Rattle.cg_hold_widths.specs.inner.Masks.{has_bit}

-- there are 64 counts, and count i is how many of these masks have bit i
pub record AreCounts (masks counts : List ℕ) : Type 0 where
  pub all : length counts ≡ 64
  pub each : (i : ℕ) → i < 64 → slice_get counts i ≡ Some (count_by (has_bit i) masks)

-- the count of a bit
abbrev pub count_at : List ℕ → ℕ → ℕ
count_at counts i = slice_index_or counts i 0

-- how often a bit counts
abbrev pub ones : Bool → ℕ
ones b = cond b 1 0
