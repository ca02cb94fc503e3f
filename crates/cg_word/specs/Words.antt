-- Words of 64 bits, each bit in a lane of its own.
use Rattle.std.specs.Prelude.{◌≡◌, ◌==◌, ◌<◌, ℕ, ◌-◌, ◌%◌, Bool, true, if◌then◌else◌, List, length, map}
use Rattle.std.specs.Int.{bit_at, bit_not, w64}
use Rattle.std.specs.Int.Bits.{bit_and}
use Rattle.cg_cell.specs.Domain.{Ops}

-- how many lanes there are, and how many words
abbrev pub LANES : ℕ
LANES = 64

abbrev pub WORDS : ℕ
WORDS = 18446744073709551616

-- the bit of a word in a lane, and the bits of words
abbrev pub lane_bit : ℕ → ℕ → Bool
lane_bit i word = bit_at word i == 1

abbrev pub lane : ℕ → List ℕ → List Bool
lane i words = map (lane_bit i) words

-- a word with the other bit in each lane
abbrev pub word_not : ℕ → ℕ
word_not word = bit_not w64 (word % WORDS)

-- in each lane a word has this bit
pub record IsWord (word : ℕ) (bit : ℕ → Bool) : Type 0 where
  pub at : (i : ℕ) → i < LANES → lane_bit i word ≡ bit i

-- in some lane a word is 1
pub record HasOne (word : ℕ) : Type 0 where
  pub in_lane : ℕ
  pub below : in_lane < LANES
  pub one : lane_bit in_lane word ≡ true

-- The operations of words. An assignment stands for a lane: the one whose number is its length.
abbrev pub words_ops : Ops
words_ops = record {
  constant_of = λ s bit. record { answer = if bit then WORDS - 1 else 0; pairs = s.pairs };
  not_of = λ s a. record { answer = word_not a; pairs = s.pairs };
  and_of = λ s a b. record { answer = bit_and a b; pairs = s.pairs };
  is_sound = λ s. true;
  is_valid = λ s a. true;
  bit = λ s bits a. lane_bit (length bits % LANES) a;
}
