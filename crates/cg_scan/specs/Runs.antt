-- Where a byte that passes a test stands first, from some place of a text on.
use Rattle.std.specs.Prelude.{◌≡◌, ℕ, ◌+◌, ◌<◌, ◌≤◌, ◌==◌, ◌||◌, nat_le, Bool, true, false, List, length, slice_index, if◌then◌else◌}
use Rattle.std.specs.Int.{w64, trailing_zeros}

-- the byte is a space or below it; or it is that or of some value
abbrev pub is_control : ℕ → Bool
is_control b = nat_le b 32

abbrev pub is_blank_or : ℕ → ℕ → Bool
is_blank_or value b = nat_le b 32 || b == value

-- the place of the lowest bit that is set, or n
abbrev pub first_set : ℕ → ℕ → ℕ
first_set marks n = if marks == 0 then n else trailing_zeros w64 marks

-- of the n bytes from a place on, so many stand before the first that passes the test
pub record IsRun (test : ℕ → Bool) (text : List ℕ) (from n run : ℕ) : Type 0 where
  pub within : run ≤ n
  pub before : (k : ℕ) → from ≤ k → k < from + run → test (slice_index text k) ≡ false
  pub ends : run < n → test (slice_index text (from + run)) ≡ true

-- from a place on the first byte that passes the test stands here, or none does and this is the length
pub record IsFirst (test : ℕ → Bool) (text : List ℕ) (from at : ℕ) : Type 0 where
  pub behind : from ≤ at
  pub within : at ≤ length text
  pub before : (k : ℕ) → from ≤ k → k < at → test (slice_index text k) ≡ false
  pub ends : at < length text → test (slice_index text at) ≡ true
