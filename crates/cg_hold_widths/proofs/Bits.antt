-- Bits of masks.
use Rattle.std.proofs.Common.{◌≡◌, ℕ, ◌-◌, ◌*◌, ◌<◌, ◌≤◌, false, not, ◌&&◌, ◌||◌, max, min, nat_eq, sym}
use Rattle.std.proofs.Common.{◌∙◌, ap, arith, w64, inl, inr}
use Rattle.std.specs.Prelude.{◌==◌, ◌^◌, ◌%◌}
use Rattle.std.specs.Int.{bit_at, bit_not}
use Rattle.std.specs.Int.Bits.{bit_and, bit_or}
use Rattle.std.proofs.lemmas.Bool.Decides.{eqb_tells, nat_tests}
use Rattle.std.proofs.lemmas.Nat.{one_shl}
use Rattle.std.proofs.lemmas.Nat.Bits.{bit_at-lt, bit_at-pow_other, bit_at-pow_same, bit_at-zero, bit_at_above, bit_at_and, bit_at_not, bit_at_or}
use Rattle.cg_hold_widths.specs.inner.Masks.{has_bit}

pub no_bit : (i : ℕ) → has_bit i 0 ≡ false
no_bit i = ap (λ n. n == 1) (bit_at-zero i)

pub either_bit : (a b i : ℕ) → has_bit i (bit_or a b) ≡ (has_bit i a || has_bit i b)
either_bit a b i = ap (λ n. n == 1) (bit_at_or a b i) ∙ either (bit_at a i) (bit_at b i) (bit_at-lt a i) (bit_at-lt b i)
  where
    either : (m n : ℕ) → m < 2 → n < 2 → (max m n == 1) ≡ ((m == 1) || (n == 1))
    either m n small low = grind (arith, nat_tests, small, low)

pub both_bit : (a b i : ℕ) → has_bit i (bit_and a b) ≡ (has_bit i a && has_bit i b)
both_bit a b i = ap (λ n. n == 1) (bit_at_and a b i) ∙ both (bit_at a i) (bit_at b i) (bit_at-lt a i) (bit_at-lt b i)
  where
    both : (m n : ℕ) → m < 2 → n < 2 → (min m n == 1) ≡ (m == 1) && (n == 1)
    both m n small low = grind (arith, nat_tests, small, low)

pub other_bit : (a i : ℕ) → a < 2 ^ 64 → i < 64 → has_bit i (bit_not w64 a) ≡ not (has_bit i a)
other_bit a i fits below = ap (λ n. n == 1) (bit_at_not w64 a i fits below) ∙ other (bit_at a i) (bit_at-lt a i)
  where
    other : (n : ℕ) → n < 2 → (1 - n == 1) ≡ not (n == 1)
    other n small = grind (arith, nat_tests, small)

-- the mask with one bit
pub one_bit : (place i : ℕ) → place < 64 → has_bit i (1 * 2 ^ place % 2 ^ 64) ≡ nat_eq i place
one_bit place i below = ap (has_bit i) (one_shl place 64 below) ∙ elim (eqb_tells i place) [
  | inl e ↦ ap (λ k. has_bit k (2 ^ place)) e.1 ∙ (ap (λ n. n == 1) (bit_at-pow_same place) ∙ sym e.0)
  | inr e ↦ ap (λ n. n == 1) (bit_at-pow_other place i e.1) ∙ sym e.0
]

past_bit : (a i : ℕ) → a < 2 ^ 64 → 64 ≤ i → has_bit i a ≡ false
past_bit a i fits past = ap (λ n. n == 1) (bit_at_above a 64 i fits past)

-- one bit, unless another mask has it
pub one_unless : (place shown i : ℕ) → place < 64 → shown < 2 ^ 64 → has_bit i (bit_and (1 * 2 ^ place % 2 ^ 64) (bit_not w64 shown)) ≡ (nat_eq i place && not (has_bit i shown))
one_unless place shown i below fits =
    both_bit (1 * 2 ^ place % 2 ^ 64) (bit_not w64 shown) i
    ∙ (ap (λ b. b && has_bit i (bit_not w64 shown)) (one_bit place i below) ∙ elim (eqb_tells i place) [
      | inl e ↦ ap (λ b. nat_eq i place && b) (other_bit shown i fits (omega (arith, e.1, below)))
      | inr e ↦ ap (λ b. b && has_bit i (bit_not w64 shown)) e.0 ∙ sym (ap (λ b. b && not (has_bit i shown)) e.0)
    ])

-- a mask without one of its bits
pub without_bit : (place rest i : ℕ) → place < 64 → i < 64 → has_bit i (bit_and rest (bit_not w64 (1 * 2 ^ place % 2 ^ 64))) ≡ (has_bit i rest && not (nat_eq i place))
without_bit place rest i below low =
    both_bit rest (bit_not w64 (1 * 2 ^ place % 2 ^ 64)) i
    ∙ ap (λ b. has_bit i rest && b) (other_bit (1 * 2 ^ place % 2 ^ 64) i (omega arith) low ∙ ap not (one_bit place i below))
