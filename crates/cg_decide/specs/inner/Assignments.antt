-- Assignments: the bits that all leaves are given at once, by their number. Words hold 64 of them, each in a lane of its own.
use Rattle.std.specs.Prelude.{◌≡◌, ◌==◌, ◌<◌, ℕ, zero, suc, ◌+◌, ◌*◌, ◌/◌, ◌%◌, Bool, false, List, [], ◌∷◌, Some, slice_get}
use Rattle.std.specs.Int.{bit_at, bit_not, w64}
use Rattle.cg_cell.specs.Domain.{Seen}
use Rattle.cg_aig.specs.Aig.{lit_bit, node_values}
use Rattle.cg_decide.specs.declared.lanes.Quad.{Quad}

-- how many lanes there are, and how many words
abbrev pub LANES : ℕ
LANES = 64

abbrev pub WORDS : ℕ
WORDS = 18446744073709551616

-- the bit of a word in a lane
abbrev pub lane_bit : ℕ → ℕ → Bool
lane_bit i word = bit_at word i == 1

-- a word with the other bit in each lane
abbrev pub word_not : ℕ → ℕ
word_not word = bit_not w64 (word % WORDS)

-- the leaf bits of an assignment: those of its number, the last leaf having the lowest
abbrev pub assigned : ℕ → ℕ → List Bool
assigned zero number = []
assigned (suc leaves) number = (bit_at number leaves == 1) ∷ assigned leaves number

-- a bit of the assignments' numbers, in each lane that of the assignment of that lane
pub record IsPlaceWord (place number word : ℕ) : Type 0 where
  pub at : (i : ℕ) → i < LANES → lane_bit i word ≡ (bit_at (number * LANES + i) place == 1)

-- the bits of a literal, in each lane under the assignment of that lane
pub record IsWord (s : Seen) (literal number word : ℕ) : Type 0 where
  pub at : (i : ℕ) → i < LANES → lane_bit i word ≡ lit_bit (node_values s (assigned s.number (number * LANES + i))) literal

-- those of four words in a row
pub record IsQuad (s : Seen) (literal number : ℕ) (q : Quad) : Type 0 where
  pub first : IsWord s literal (4 * number) q.first
  pub second : IsWord s literal (4 * number + 1) q.second
  pub third : IsWord s literal (4 * number + 2) q.third
  pub fourth : IsWord s literal (4 * number + 3) q.fourth

-- those of the first nodes
abbrev pub AreQuads : Seen → ℕ → List Quad → Type 0
AreQuads s number quads = (node : ℕ) (q : Quad) → slice_get quads node ≡ Some q → IsQuad s (2 * node) number q

-- no word has a 1
pub record IsZero (q : Quad) : Type 0 where
  pub first : q.first ≡ 0
  pub second : q.second ≡ 0
  pub third : q.third ≡ 0
  pub fourth : q.fourth ≡ 0

-- the goal is 0 under the first assignments
abbrev pub IsZeroBelow : Seen → ℕ → ℕ → Type 0
IsZeroBelow s goal count = (number : ℕ) → number < count → lit_bit (node_values s (assigned s.number number)) goal ≡ false
