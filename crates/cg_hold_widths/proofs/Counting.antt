-- How many masks have each bit.
use Rattle.std.proofs.Common.{◌≡◌, ℕ, ◌+◌, ◌*◌, ◌<◌, ◌≤◌, Bool, true, false, not, ◌&&◌, List, length}
use Rattle.std.proofs.Common.{set, refl, sym, ◌∙◌, ap, arith, inl, inr, w64}
use Rattle.std.specs.Prelude.{◌==◌, ◌≢◌, ◌^◌, ◌%◌}
use Rattle.std.specs.Int.{bit_not, trailing_zeros}
use Rattle.std.specs.Int.Bits.{bit_and}
use Rattle.std.specs.List.{All}
use Rattle.std.proofs.lemmas.Bool.{both_ways}
use Rattle.std.proofs.lemmas.Bool.Decides.{eqb_tells}
use Rattle.std.proofs.lemmas.List.{length-set}
use Rattle.std.proofs.lemmas.Nat.{and_le_l}
use Rattle.std.proofs.lemmas.Nat.Bits.{bit_at-trailing_zeros}
use Rattle.cg_hold_widths.specs.inner.Masks.{has_bit}
use Rattle.cg_hold_widths.specs.inner.Counts.{count_at, ones}
use Rattle.cg_hold_widths.proofs.Bits.{no_bit, without_bit}
use Rattle.cg_hold_widths.proofs.Touching.{set_other, set_same}

-- of a mask these bits are left to be counted
pub record Counted (mask rest : ℕ) (old counts : List ℕ) : Type 0 where
  pub long : length counts ≡ length old
  pub each : (i : ℕ) → i < 64 → count_at counts i + ones (has_bit i rest) ≡ count_at old i + ones (has_bit i mask)

pub counted_first : (mask : ℕ) (counts : List ℕ) → Counted mask mask counts counts
counted_first mask counts = record { long = refl; each = λ i low. refl }

-- the next bit
pub record IsNextBit (rest place : ℕ) : Type 0 where
  pub low : place < 64
  pub one : has_bit place rest ≡ true

pub next_bit : (rest : ℕ) → 0 < rest → rest < 2 ^ 64 → IsNextBit rest (trailing_zeros w64 rest)
next_bit rest some fits = let first = bit_at-trailing_zeros w64 rest some fits in record { low = first.0; one = ap (λ n. n == 1) first.1 }

room_at : (counts : List ℕ) (i : ℕ) → i < length counts → All (λ n. n + 1 < 2 ^ 64) counts → count_at counts i + 1 < 2 ^ 64
room_at counts i within room = room i 0 within

is_less : (m n : ℕ) → m ≤ n → m ≢ n → m < n
is_less m n below other = elim (Rattle.cg_net.proofs.TableLemmas.same_or_not m n) [
  | inl same ↦ absurd (other same)
  | inr apart ↦ grind (arith, below, apart)
]

module _ (mask rest place : ℕ) (old counts : List ℕ) (is : IsNextBit rest place) (all : length old ≡ 64) (room : All (λ n. n + 1 < 2 ^ 64) old) (c : Counted mask rest old counts) where
  abbrev left : ℕ
  left = bit_and rest (bit_not w64 (1 * 2 ^ place % 2 ^ 64))

  pub place_within : place < length counts
  place_within = let low = is.low in let long = c.long in omega (arith, low, long, all)

  pub count_room : count_at counts place + 1 < 2 ^ 64
  count_room =
      let each = c.each place is.low in
      let one : ones (has_bit place rest) ≡ 1 = ap (λ b. ones b) is.one in
      let most : ones (has_bit place mask) ≤ 1 = at_most (has_bit place mask) in
      let before = room_at old place (let low = is.low in omega (arith, low, all)) room in
      omega (arith, each, one, most, before)
    where
      at_most : (b : Bool) → ones b ≤ 1
      at_most true = omega arith
      at_most false = omega arith

  pub left_less : left < rest
  left_less = is_less left rest (and_le_l rest (bit_not w64 (1 * 2 ^ place % 2 ^ 64))) (λ same. both_ways (has_bit place left) gone (ap (has_bit place) same ∙ is.one))
    where
      gone : has_bit place left ≡ false
      gone = without_bit place rest place is.low is.low ∙ (ap (λ b. has_bit place rest && not b) (Rattle.std.proofs.lemmas.Bool.eq-eqb place place refl) ∙ none (has_bit place rest))
        where
          none : (b : Bool) → (b && false) ≡ false
          none true = refl
          none false = refl

  pub counted_more : (n : ℕ) → n ≡ count_at counts place + 1 → Counted mask left old (set counts place n)
  counted_more n more = record {
    long = length-set counts place n ∙ c.long;
    each = λ i low. elim (eqb_tells i place) [
      | inl e ↦
          let put : count_at (set counts place n) i ≡ count_at counts i + 1 = ap (count_at (set counts place n)) e.1 ∙ (set_same counts place n place_within ∙ (more ∙ ap (λ k. count_at counts k + 1) (sym e.1))) in
          let one : ones (has_bit i rest) ≡ 1 = ap (λ k. ones (has_bit k rest)) e.1 ∙ ap (λ b. ones b) is.one in
          let gone : ones (has_bit i left) ≡ 0 = ap (λ b. ones b) (without_bit place rest i is.low low ∙ (ap (λ b. has_bit i rest && not b) e.0 ∙ none (has_bit i rest))) in
          let before = c.each i low in
          omega (arith, put, one, gone, before)
      | inr e ↦
          let put : count_at (set counts place n) i ≡ count_at counts i = set_other counts place i n e.1 in
          let same : ones (has_bit i left) ≡ ones (has_bit i rest) = ap (λ b. ones b) (without_bit place rest i is.low low ∙ (ap (λ b. has_bit i rest && not b) e.0 ∙ all_of (has_bit i rest))) in
          let before = c.each i low in
          omega (arith, put, same, before)
    ];
  }
    where
      none : (b : Bool) → (b && false) ≡ false
      none true = refl
      none false = refl

      all_of : (b : Bool) → (b && true) ≡ b
      all_of true = refl
      all_of false = refl

-- all bits are counted
pub counted_all : (mask rest : ℕ) (old counts : List ℕ) → rest ≡ 0 → Counted mask rest old counts → (i : ℕ) → i < 64 → count_at counts i ≡ count_at old i + ones (has_bit i mask)
counted_all mask rest old counts none c i low =
    let each = c.each i low in
    let gone : ones (has_bit i rest) ≡ 0 = ap (λ b. ones b) (ap (has_bit i) none ∙ no_bit i) in
    omega (arith, each, gone)
