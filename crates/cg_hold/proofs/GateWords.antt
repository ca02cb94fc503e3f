-- The words of added gates.
use Rattle.std.proofs.Common.{◌≡◌, ℕ, Bool, true, false, not, ◌&&◌, ◌||◌, List, [], ◌∷◌, length, slice_index_or, refl, ◌∙◌, arith}
use Rattle.std.specs.Int.Bits.{bit_and, bit_or}
use Rattle.cg_cell.specs.Cover.{cover_value}
use Rattle.cg_machine.specs.Gates.{and_cover, inverter_cover, or_cover}
use Rattle.cg_word.proofs.Lanes.{or_bit}
use Rattle.cg_word.specs.Words.{IsWord, lane, lane_bit, word_not}
use Rattle.cg_word.specs.inner.WordsLaws.{and_bit, not_bit}

pub inverter_word : (inputs : List ℕ) → length inputs ≡ 1 → IsWord (word_not (slice_index_or inputs 0 0)) (λ i. cover_value inverter_cover (lane i inputs))
inverter_word [] long = absurd (omega arith)
inverter_word (a ∷ []) long = record { at = λ i below. not_bit a i below ∙ same (lane_bit i a) }
  where
    same : (b : Bool) → not b ≡ cover_value inverter_cover (b ∷ [])
    same true = refl
    same false = refl
inverter_word (a ∷ b ∷ inputs) long = absurd (omega arith)

pub and_word : (inputs : List ℕ) → length inputs ≡ 2 → IsWord (bit_and (slice_index_or inputs 0 0) (slice_index_or inputs 1 0)) (λ i. cover_value and_cover (lane i inputs))
and_word [] long = absurd (omega arith)
and_word (a ∷ []) long = absurd (omega arith)
and_word (a ∷ b ∷ []) long = record { at = λ i below. and_bit a b i ∙ same (lane_bit i a) (lane_bit i b) }
  where
    same : (c d : Bool) → (c && d) ≡ cover_value and_cover (c ∷ d ∷ [])
    same true true = refl
    same true false = refl
    same false true = refl
    same false false = refl
and_word (a ∷ b ∷ c ∷ inputs) long = absurd (omega arith)

pub or_word : (inputs : List ℕ) → length inputs ≡ 2 → IsWord (bit_or (slice_index_or inputs 0 0) (slice_index_or inputs 1 0)) (λ i. cover_value or_cover (lane i inputs))
or_word [] long = absurd (omega arith)
or_word (a ∷ []) long = absurd (omega arith)
or_word (a ∷ b ∷ []) long = record { at = λ i below. or_bit a b i ∙ same (lane_bit i a) (lane_bit i b) }
  where
    same : (c d : Bool) → (c || d) ≡ cover_value or_cover (c ∷ d ∷ [])
    same true true = refl
    same true false = refl
    same false true = refl
    same false false = refl
or_word (a ∷ b ∷ c ∷ inputs) long = absurd (omega arith)
