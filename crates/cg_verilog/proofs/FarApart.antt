-- How far numbers lie apart, by their digits from the highest on.
use Rattle.std.proofs.Common.{◌≡◌, ℕ, zero, suc, ◌+◌, ◌-◌, ◌*◌, ◌<◌, ◌≤◌, List, [], ◌∷◌, length, drop, get_or, refl, ap, subst, ◌∙◌, arith, inl, inr}
use Rattle.std.proofs.lemmas.Bool.{cases_lt}
use Rattle.cg_verilog.specs.Counters.{AreDigits, value_of}
use Rattle.cg_verilog.proofs.CounterLemmas.{Below, shorter_less}

empty_drop : (place : ℕ) → value_of (drop place []) ≡ 0
empty_drop zero = refl
empty_drop (suc place) = refl

-- digits from a place on
pub value_drop : (digits : List ℕ) (place : ℕ) → value_of (drop place digits) ≡ get_or digits place 0 + 10 * value_of (drop (place + 1) digits)
value_drop [] zero = refl
value_drop [] (suc place) = let rest : value_of (drop (suc place + 1) []) ≡ 0 = empty_drop (suc place + 1) in omega (arith, rest)
value_drop (digit ∷ digits) zero = refl
value_drop (digit ∷ digits) (suc place) = let same : suc (place + 1) ≡ suc place + 1 = omega arith in value_drop digits place ∙ ap (λ k. get_or digits place 0 + 10 * value_of (drop k (digit ∷ digits))) same

none_more : (digits : List ℕ) (place : ℕ) → value_of digits ≡ 0 → value_of (drop place digits) ≡ 0
none_more digits zero none = none
none_more [] (suc place) none = refl
none_more (digit ∷ digits) (suc place) none = none_more digits place (omega (arith, none))

-- a number that is no more than another is no more than it without the lowest digits of both
pub order_drop : (digits others : List ℕ) (place : ℕ) → Below digits → value_of others ≤ value_of digits → value_of (drop place others) ≤ value_of (drop place digits)
order_drop digits others zero below order = order
order_drop [] others (suc place) below order = let none : value_of (drop (suc place) others) ≡ 0 = none_more others (suc place) (omega (arith, order)) in omega (arith, none)
order_drop (digit ∷ digits) [] (suc place) below order = omega arith
order_drop (digit ∷ digits) (other ∷ others) (suc place) below order = let few : digit < 10 = below.0 in order_drop digits others place below.1 (omega (arith, order, few))

-- a number that is far above another without the lowest digits of both is far above it
pub far_drop : (digits others : List ℕ) (place gap : ℕ) → Below others → 0 < gap → value_of (drop place others) + gap ≤ value_of (drop place digits) → value_of others + gap ≤ value_of digits
far_drop digits others zero gap below some far = far
far_drop [] others (suc place) gap below some far = absurd (omega (arith, some, far))
far_drop (digit ∷ digits) [] (suc place) gap below some far =
    let rest : 0 + gap ≤ value_of digits = far_drop digits [] place gap tt some (nothing place) in
    omega (arith, rest)
  where
    nothing : (k : ℕ) → value_of (drop k []) + gap ≤ value_of (drop place digits)
    nothing zero = far
    nothing (suc k) = far
far_drop (digit ∷ digits) (other ∷ others) (suc place) gap below some far =
    let rest : value_of others + gap ≤ value_of digits = far_drop digits others place gap below.1 some far in
    let few : other < 10 = below.0 in
    omega (arith, rest, few, some)

-- a number that is no more than another has no more digits
pub no_longer : (digits others : List ℕ) → AreDigits digits → AreDigits others → value_of others ≤ value_of digits → length others ≤ length digits
no_longer digits others are be order = elim (cases_lt (length digits) (length others)) [
  | inl longer ↦ let less : value_of digits < value_of others = shorter_less digits others are be longer in absurd (omega (arith, less, order))
  | inr most ↦ omega (arith, most)
]

-- no digits stand behind all
pub nothing_behind : (digits : List ℕ) (place : ℕ) → length digits ≤ place → value_of (drop place digits) ≡ 0
nothing_behind [] zero all = refl
nothing_behind [] (suc place) all = refl
nothing_behind (digit ∷ digits) zero all = absurd (omega arith)
nothing_behind (digit ∷ digits) (suc place) all = nothing_behind digits place (omega arith)

-- how far digits are above others, with one digit more of both
module _ (digits others : List ℕ) (from at above : ℕ) (below : Below digits) (order : value_of others ≤ value_of digits) (next : from ≡ at + 1)
    (gap : value_of (drop from others) + above ≡ value_of (drop from digits)) where
  pub digit_fits : get_or others at 0 ≤ 10 * above + get_or digits at 0
  digit_fits =
      let less = order_drop digits others at below order in
      let here = value_drop digits at in
      let there = value_drop others at in
      let same : value_of (drop (at + 1) others) + above ≡ value_of (drop (at + 1) digits) = subst (λ k. value_of (drop k others) + above ≡ value_of (drop k digits)) next gap in
      omega (arith, less, here, there, same)

  pub gap_next : value_of (drop at others) + (10 * above + get_or digits at 0 - get_or others at 0) ≡ value_of (drop at digits)
  gap_next =
      let here = value_drop digits at in
      let there = value_drop others at in
      let fits = digit_fits in
      let same : value_of (drop (at + 1) others) + above ≡ value_of (drop (at + 1) digits) = subst (λ k. value_of (drop k others) + above ≡ value_of (drop k digits)) next gap in
      omega (arith, here, there, same, fits)
