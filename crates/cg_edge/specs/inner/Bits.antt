-- Bits in words of 64.
use Rattle.std.specs.Prelude.{◌≡◌, ◌≢◌, ℕ, ◌*◌, ◌/◌, ◌%◌, ◌^◌, ◌<◌, ◌≤◌, Bool, true, false, List, length, map, nat_eq, slice_get}
use Rattle.std.specs.Prelude.{slice_index_or, Option, None, Some}
use Rattle.std.specs.Int.{bit_at}
use Rattle.std.specs.List.{range_with_len}

-- whether the bit at a place is 1
abbrev pub is_one : List ℕ → ℕ → Bool
is_one words p = nat_eq (bit_at (slice_index_or words (p / 64) 0) (p % 64)) 1

-- the bits at the places below n
abbrev pub bits_of : List ℕ → ℕ → List Bool
bits_of words n = map (is_one words) (range_with_len 0 n)

-- there is room for n bits, and those behind them are 0
pub record AreWords (words : List ℕ) (n : ℕ) : Type 0 where
  pub fits : n < 2 ^ 64
  pub room : n ≤ 64 * length words
  pub rest : (p : ℕ) → n ≤ p → is_one words p ≡ false

-- the lowest digit that is 1
pub record IsLowestAt (word k : ℕ) : Type 0 where
  pub low : k < 64
  pub one : bit_at word k ≡ 1
  pub first : (j : ℕ) → j < k → bit_at word j ≡ 0

abbrev pub IsLowest : ℕ → Option ℕ → Type 0
IsLowest word None = word ≡ 0
IsLowest word (Some k) = IsLowestAt word k

-- the first place from one on that has a mark
pub record IsNextAt (marks : List Bool) (from p : ℕ) : Type 0 where
  pub past : from ≤ p
  pub marked : slice_get marks p ≡ Some true
  pub first : (q : ℕ) → from ≤ q → q < p → slice_get marks q ≢ Some true

abbrev pub IsNext : List Bool → ℕ → Option ℕ → Type 0
IsNext marks from None = (q : ℕ) → from ≤ q → slice_get marks q ≢ Some true
IsNext marks from (Some p) = IsNextAt marks from p
