-- Assignments: each list of leaf bits is one, and the words of leaves hold them.
use Rattle.std.specs.Prelude.{◌≡◌, ◌==◌, ◌<◌, ◌≤◌, ℕ, zero, suc, ◌+◌, ◌-◌, ◌*◌, ◌/◌, ◌%◌, ◌^◌, Bool, true, false, not, ◌&&◌, if◌then◌else◌}
use Rattle.std.specs.Prelude.{List, [], ◌∷◌, length, slice_index_or, refl, min}
use Rattle.std.specs.Int.{bit_at, w64}
use Rattle.std.specs.Int.Bits.{bit_and}
use Rattle.std.proofs.Common.{◌∙◌, sym, ap, arith}
use Rattle.std.proofs.Math.Nat.{pow-suc}
use Rattle.std.proofs.lemmas.Bool.{and_parts, eqb-false, eqb-true}
use Rattle.std.proofs.lemmas.Nat.Bits.{bit_at-lt, bit_at-zero, bit_at_and, bit_at_cat_high, bit_at_cat_low, bit_at_not, bit_at_ones}
use Rattle.std.proofs.lemmas.Nat.{one_shl, pow-add}
use Rattle.std.proofs.lemmas.Bool.Decides.{nat_tests}
use Rattle.cg_decide.specs.inner.Assignments.{IsPlaceWord, LANES, WORDS, assigned, lane_bit, word_not}

-- one bit for each leaf
pub length-assigned : (leaves number : ℕ) → length (assigned leaves number) ≡ leaves
length-assigned zero number = refl
length-assigned (suc leaves) number = ap suc (length-assigned leaves number)

-- each leaf has a bit of the number
pub assigned_at : (leaves number leaf : ℕ) → leaf < leaves → slice_index_or (assigned leaves number) leaf false ≡ (bit_at number (leaves - 1 - leaf) == 1)
assigned_at zero number leaf h = absurd (omega arith)
assigned_at (suc leaves) number zero h = let e : leaves ≡ suc leaves - 1 - 0 = omega arith in ap (λ n. bit_at number n == 1) e
assigned_at (suc leaves) number (suc leaf) h =
    let e : leaves - 1 - leaf ≡ suc leaves - 1 - suc leaf = omega arith in
    assigned_at leaves number leaf (omega arith) ∙ ap (λ n. bit_at number n == 1) e

-- higher bits of a number give bits to no leaf
assigned_low : (leaves place high low : ℕ) → leaves ≤ place → assigned leaves (high * 2 ^ place + low) ≡ assigned leaves low
assigned_low zero place high low h = refl
assigned_low (suc leaves) place high low h =
    ap (λ n. (n == 1) ∷ assigned leaves (high * 2 ^ place + low)) (bit_at_cat_low high place low leaves (omega arith))
    ∙ ap (λ l. (bit_at low leaves == 1) ∷ l) (assigned_low leaves place high low (omega arith))

-- the number of an assignment
pub number_of : List Bool → ℕ
number_of [] = 0
number_of (b ∷ bits) = (if b then 1 else 0) * 2 ^ length bits + number_of bits

pub number_below : (bits : List Bool) → number_of bits < 2 ^ length bits
unfolding number_of
number_below [] = omega arith
number_below (true ∷ bits) = let e = number_below bits in let f = pow-suc 2 (length bits) in omega arith
number_below (false ∷ bits) = let e = number_below bits in let f = pow-suc 2 (length bits) in omega arith

first_is : (b : Bool) (place low : ℕ) → low < 2 ^ place → (bit_at ((if b then 1 else 0) * 2 ^ place + low) place == 1) ≡ b
first_is true place low h =
    let none : place - place ≡ 0 = omega arith in
    ap (λ n. n == 1) (bit_at_cat_high 1 place low place h (omega arith) ∙ ap (λ n. bit_at 1 n) none)
first_is false place low h =
    let none : place - place ≡ 0 = omega arith in
    ap (λ n. n == 1) (bit_at_cat_high 0 place low place h (omega arith) ∙ ap (λ n. bit_at 0 n) none)

-- each list of leaf bits is an assignment
pub assigned_is : (bits : List Bool) → assigned (length bits) (number_of bits) ≡ bits
unfolding number_of
assigned_is [] = refl
assigned_is (b ∷ bits) =
    let place = length bits in
    let high = if b then 1 else 0 in
    ap (λ h. h ∷ assigned place (high * 2 ^ place + number_of bits)) (first_is b place (number_of bits) (number_below bits))
    ∙ (ap (λ l. b ∷ l) (assigned_low place place high (number_of bits) (omega arith)) ∙ ap (λ l. b ∷ l) (assigned_is bits))

-- whether a test holds in the first lanes
all_lanes : ℕ → (ℕ → Bool) → Bool
all_lanes zero test = true
all_lanes (suc n) test = test n && all_lanes n test

in_lane : (n : ℕ) (test : ℕ → Bool) (i : ℕ) → all_lanes n test ≡ true → i < n → test i ≡ true
unfolding all_lanes
in_lane zero test i h below = absurd (omega arith)
in_lane (suc n) test i h below = by (i == n) refl (in_lane n test i (and_parts _ _ h).1)
  where
    by : (same : Bool) → (i == n) ≡ same → (i < n → test i ≡ true) → test i ≡ true
    by true e rest = ap test (eqb-true i n e) ∙ (and_parts _ _ h).0
    by false e rest = rest (let f = eqb-false i n e in omega arith)

-- a word whose lanes have this bit of their numbers is that of this leaf, if this bit is one of the six of a lane's number
mask_is : (leaf word number : ℕ) → leaf < 6 → all_lanes 64 (λ i. bit_at word i == bit_at i leaf) ≡ true → IsPlaceWord leaf number word
mask_is leaf word number few h = record {
  at = λ i below. ap (λ n. n == 1)
      (eqb-true (bit_at word i) (bit_at i leaf) (in_lane 64 (λ i. bit_at word i == bit_at i leaf) i h below)
      ∙ sym (bit_at_cat_low number 6 i leaf few));
}

pub mask_0 : (number : ℕ) → IsPlaceWord 0 number 0xaaaa_aaaa_aaaa_aaaa
unfolding all_lanes
mask_0 number = mask_is 0 0xaaaa_aaaa_aaaa_aaaa number (omega arith) refl

pub mask_1 : (number : ℕ) → IsPlaceWord 1 number 0xcccc_cccc_cccc_cccc
unfolding all_lanes
mask_1 number = mask_is 1 0xcccc_cccc_cccc_cccc number (omega arith) refl

pub mask_2 : (number : ℕ) → IsPlaceWord 2 number 0xf0f0_f0f0_f0f0_f0f0
unfolding all_lanes
mask_2 number = mask_is 2 0xf0f0_f0f0_f0f0_f0f0 number (omega arith) refl

pub mask_3 : (number : ℕ) → IsPlaceWord 3 number 0xff00_ff00_ff00_ff00
unfolding all_lanes
mask_3 number = mask_is 3 0xff00_ff00_ff00_ff00 number (omega arith) refl

pub mask_4 : (number : ℕ) → IsPlaceWord 4 number 0xffff_0000_ffff_0000
unfolding all_lanes
mask_4 number = mask_is 4 0xffff_0000_ffff_0000 number (omega arith) refl

pub mask_5 : (number : ℕ) → IsPlaceWord 5 number 0xffff_ffff_0000_0000
unfolding all_lanes
mask_5 number = mask_is 5 0xffff_ffff_0000_0000 number (omega arith) refl

-- all lanes have the same bit
pub constant_lane : (b : Bool) (i : ℕ) → i < LANES → lane_bit i (if b then 18446744073709551615 else 0) ≡ b
constant_lane true i below = ap (λ n. n == 1) (bit_at_ones 64 i below)
constant_lane false i below = ap (λ n. n == 1) (bit_at-zero i)

-- the bits of later leaves are the same in all lanes of a word
pub whole_is : (leaf number word : ℕ) → 6 ≤ leaf →
    ((i : ℕ) → i < LANES → lane_bit i word ≡ ((number / 2 ^ (leaf - 6)) % 2 == 1)) → IsPlaceWord leaf number word
whole_is leaf number word many all = record {
  at = λ i below. all i below ∙ ap (λ n. n == 1) (sym (bit_at_cat_high number 6 i leaf below many));
}

low_bit : (word i : ℕ) → i < LANES → bit_at (word % WORDS) i ≡ bit_at word i
low_bit word i below =
    let parts : word ≡ word / WORDS * WORDS + word % WORDS = omega arith in
    sym (ap (λ n. bit_at n i) parts ∙ bit_at_cat_low (word / WORDS) 64 (word % WORDS) i below)

-- the inverse of a word, and the and of two, lane by lane
pub lane_not : (word i : ℕ) → i < LANES → lane_bit i (word_not word) ≡ not (lane_bit i word)
lane_not word i below =
    ap (λ n. n == 1) (bit_at_not w64 (word % WORDS) i (omega arith) below ∙ ap (λ n. 1 - n) (low_bit word i below))
    ∙ other (bit_at word i) (bit_at-lt word i)
  where
    other : (n : ℕ) → n < 2 → (1 - n == 1) ≡ not (n == 1)
    other n few = grind (arith, nat_tests, few)

pub lane_and : (a b i : ℕ) → lane_bit i (bit_and a b) ≡ (lane_bit i a && lane_bit i b)
lane_and a b i = ap (λ n. n == 1) (bit_at_and a b i) ∙ both (bit_at a i) (bit_at b i) (bit_at-lt a i) (bit_at-lt b i)
  where
    both : (m n : ℕ) → m < 2 → n < 2 → (min m n == 1) ≡ ((m == 1) && (n == 1))
    both m n few low = grind (arith, nat_tests, few, low)

-- enough words for all assignments
pub enough : (leaves : ℕ) → 8 ≤ leaves → leaves ≤ 20 → 2 ^ leaves ≤ 256 * (1 * 2 ^ (leaves - 8) % 18446744073709551616)
enough leaves many few =
    let one : (1 * 2 ^ (leaves - 8)) % 2 ^ 64 ≡ 2 ^ (leaves - 8) = one_shl (leaves - 8) 64 (omega arith) in
    let sum : 8 + (leaves - 8) ≡ leaves = omega arith in
    let whole : 2 ^ leaves ≡ 2 ^ 8 * 2 ^ (leaves - 8) = ap (λ n. 2 ^ n) (sym sum) ∙ pow-add 2 8 (leaves - 8) in
    let exact : 256 * ((1 * 2 ^ (leaves - 8)) % 18446744073709551616) ≡ 256 * 2 ^ (leaves - 8) = ap (λ n. 256 * n) one in
    omega (arith, exact, whole)
