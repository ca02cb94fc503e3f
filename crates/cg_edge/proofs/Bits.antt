-- Bits in words of 64: one that is written, and the first that is 1.
use Rattle.std.proofs.Common.{◌≡◌, ◌≢◌, ℕ, zero, suc, ◌+◌, ◌-◌, ◌*◌, ◌/◌, ◌%◌, ◌^◌, ◌<◌, ◌≤◌, ◌⊎◌, inl, inr, Bool, true, false}
use Rattle.std.proofs.Common.{List, length, slice_get, slice_set, get_or, replicate, Option, None, Some, nat_eq, refl, sym, ◌∙◌, ap}
use Rattle.std.proofs.Common.{arith, bit_and, bit_or, w64}
use Rattle.std.specs.Int.{bit_at}
use Rattle.std.proofs.Math.Nat.{div-div-eq-div-mul, mod-add-div, mod-lt}
use Rattle.std.proofs.lemmas.Bool.{both_ways}
use Rattle.std.proofs.lemmas.List.{get_or-set_other, get_or-set_same, get_or_past, get_or_read, length-replicate, length-set}
use Rattle.std.proofs.lemmas.List.FromFn.{length-map-range_with_len}
use Rattle.std.proofs.lemmas.Nat.{pow-add}
use Rattle.std.proofs.lemmas.Nat.Bits.{bit_at-zero, bit_at_above, bit_at_clear_other, bit_at_clear_same, bit_at_set_other}
use Rattle.std.proofs.lemmas.Nat.Bits.{bit_at_set_same}
use Rattle.std.proofs.lemmas.Option.{same_Some, slice_get_within}
use Rattle.cg_cell.specs.Bits.{one_if}
use Rattle.cg_net.proofs.TableLemmas.{same_or_not, slice_get-set_other, slice_get-set_same}
use Rattle.cg_netlist.proofs.Values.{by_place, same_places}
use Rattle.cg_edge.specs.inner.Bits.{AreWords, IsLowestAt, IsNext, IsNextAt, bits_of, is_one}
use Rattle.cg_edge.proofs.Laid.{looked_up}

pub below_or : (q i : ℕ) → (q ≤ i) ⊎ (i < q)
below_or zero i = inl (omega arith)
below_or (suc q) zero = inr (omega arith)
below_or (suc q) (suc i) = elim (below_or q i) [ inl h ↦ inl (omega arith) | inr h ↦ inr (omega arith) ]

pub bits_long : (words : List ℕ) (n : ℕ) → length (bits_of words n) ≡ n
bits_long words n = length-map-range_with_len (is_one words) 0 n

bit_here : (words : List ℕ) (n p : ℕ) → p < n → slice_get (bits_of words n) p ≡ Some (is_one words p)
bit_here words n p below = let same : 0 + p ≡ p = omega arith in by_place (is_one words) n 0 p below ∙ ap (λ q. Some (is_one words q)) same

-- the bits where one is written
bits_set : (old new : List ℕ) (n place : ℕ) (b : Bool) → place < n → is_one new place ≡ b → ((p : ℕ) → p ≢ place → is_one new p ≡ is_one old p) → bits_of new n ≡ slice_set (bits_of old n) place b
bits_set old new n place b below own others =
    same_places (bits_of new n) (slice_set (bits_of old n) place b) (bits_long new n ∙ sym (length-set (bits_of old n) place b ∙ bits_long old n))
    (λ p low. let small : p < n = let long = bits_long new n in omega (arith, low, long) in elim (same_or_not p place) [
      | inl e ↦
          let there : slice_get (slice_set (bits_of old n) place b) place ≡ Some b = slice_get-set_same (bits_of old n) place b (let long = bits_long old n in omega (arith, below, long)) in
          ap (slice_get (bits_of new n)) e ∙ (bit_here new n place below ∙ (ap (λ x. Some x) own ∙ sym (ap (slice_get (slice_set (bits_of old n) place b)) e ∙ there)))
      | inr differ ↦ bit_here new n p small ∙ (ap (λ x. Some x) (others p differ) ∙ sym (slice_get-set_other (bits_of old n) place p b differ ∙ bit_here old n p small))
    ])

pub word_within : (words : List ℕ) (n place : ℕ) → AreWords words n → place < n → place / 64 < length words
word_within words n place are below = let room = are.room in let split = mod-add-div place 64 in let digit : place % 64 < 64 = mod-lt place (omega arith) in omega (arith, room, below, split, digit)

module _ (words : List ℕ) (n place w : ℕ) (b : Bool) (are : AreWords words n) (below : place < n) (one : bit_at w (place % 64) ≡ one_if b) (kept : (k : ℕ) → k < 64 → k ≢ place % 64 → bit_at w k ≡ bit_at (get_or words (place / 64) 0) k) where
  own : is_one (slice_set words (place / 64) w) place ≡ b
  own = ap (λ x. nat_eq (bit_at x (place % 64)) 1) (get_or-set_same words (place / 64) w 0 (word_within words n place are below)) ∙ looked_up b (bit_at w (place % 64)) one

  others : (p : ℕ) → p ≢ place → is_one (slice_set words (place / 64) w) p ≡ is_one words p
  others p differ = elim (same_or_not (p / 64) (place / 64)) [
    | inr other ↦ ap (λ x. nat_eq (bit_at x (p % 64)) 1) (get_or-set_other words (place / 64) (p / 64) w 0 other)
    | inl same ↦
        let inner : p % 64 ≢ place % 64 = λ e. differ (let this = mod-add-div p 64 in let that = mod-add-div place 64 in omega (arith, this, that, e, same)) in
        ap (λ q. nat_eq (bit_at (get_or (slice_set words (place / 64) w) q 0) (p % 64)) 1) same
        ∙ (ap (λ x. nat_eq (bit_at x (p % 64)) 1) (get_or-set_same words (place / 64) w 0 (word_within words n place are below))
        ∙ (ap (λ x. nat_eq x 1) (kept (p % 64) (mod-lt p (omega arith)) inner) ∙ ap (λ q. nat_eq (bit_at (get_or words q 0) (p % 64)) 1) (sym same)))
  ]

  word_set : bits_of (slice_set words (place / 64) w) n ≡ slice_set (bits_of words n) place b
  word_set = bits_set words (slice_set words (place / 64) w) n place b below own others

  words_set : AreWords (slice_set words (place / 64) w) n
  words_set = record {
    fits = are.fits;
    room = let room = are.room in let long = length-set words (place / 64) w in omega (arith, room, long);
    rest = λ p past. others p (λ e. omega (arith, past, below, e)) ∙ are.rest p past;
  }

module _ (words : List ℕ) (n place old : ℕ) (seen : List Bool) (is : bits_of words n ≡ seen) (within : place < length seen) (are : AreWords words n) where
  pub seen_below : place < n
  seen_below = let long = bits_long words n in let same = ap length is in omega (arith, within, long, same)

  pub seen_within : place / 64 < length words
  seen_within = word_within words n place are seen_below

  digit : place % 64 < 64
  digit = mod-lt place (omega arith)

  -- a mark is put
  pub mark_set : old ≡ get_or words (place / 64) old → AreWords (slice_set words (place / 64) (bit_or old (1 * 2 ^ (place % 64) % 2 ^ 64))) n × (bits_of (slice_set words (place / 64) (bit_or old (1 * 2 ^ (place % 64) % 2 ^ 64))) n ≡ slice_set seen place true)
  mark_set read =
      let w : ℕ = bit_or old (1 * 2 ^ (place % 64) % 2 ^ 64) in
      let value : old ≡ get_or words (place / 64) 0 = get_or_read words (place / 64) old seen_within read 0 in
      let one : bit_at w (place % 64) ≡ one_if true = bit_at_set_same w64 old (place % 64) digit in
      let kept : (k : ℕ) → k < 64 → k ≢ place % 64 → bit_at w k ≡ bit_at (get_or words (place / 64) 0) k = λ k low differ. bit_at_set_other w64 old (place % 64) digit k differ ∙ ap (λ x. bit_at x k) value in
      (words_set words n place w true are seen_below one kept, word_set words n place w true are seen_below one kept ∙ ap (λ ms. slice_set ms place true) is)

  -- a mark is taken away
  pub mark_cleared : old ≡ get_or words (place / 64) old → AreWords (slice_set words (place / 64) (bit_and old (2 ^ 64 - 1 - 1 * 2 ^ (place % 64) % 2 ^ 64))) n × (bits_of (slice_set words (place / 64) (bit_and old (2 ^ 64 - 1 - 1 * 2 ^ (place % 64) % 2 ^ 64))) n ≡ slice_set seen place false)
  mark_cleared read =
      let w : ℕ = bit_and old (2 ^ 64 - 1 - 1 * 2 ^ (place % 64) % 2 ^ 64) in
      let value : old ≡ get_or words (place / 64) 0 = get_or_read words (place / 64) old seen_within read 0 in
      let one : bit_at w (place % 64) ≡ one_if false = bit_at_clear_same w64 old (place % 64) digit in
      let kept : (k : ℕ) → k < 64 → k ≢ place % 64 → bit_at w k ≡ bit_at (get_or words (place / 64) 0) k = λ k low differ. bit_at_clear_other w64 old (place % 64) digit k low differ ∙ ap (λ x. bit_at x k) value in
      (words_set words n place w false are seen_below one kept, word_set words n place w false are seen_below one kept ∙ ap (λ ms. slice_set ms place false) is)

no_bit : (words : List ℕ) (p : ℕ) → bit_at (get_or words (p / 64) 0) (p % 64) ≡ 0 → is_one words p ≡ false
no_bit words p none = ap (λ x. nat_eq x 1) none

past_words : (words : List ℕ) (p : ℕ) → length words ≤ p / 64 → is_one words p ≡ false
past_words words p past = no_bit words p (ap (λ w. bit_at w (p % 64)) (get_or_past words (p / 64) 0 past) ∙ bit_at-zero (p % 64))

zero_at : (k i z : ℕ) → get_or (replicate k z) i z ≡ z
zero_at zero i z = refl
zero_at (suc k) zero z = refl
zero_at (suc k) (suc i) z = zero_at k i z

-- words that are 0
pub zero_words : (words : List ℕ) (n k : ℕ) → words ≡ replicate k 0 → n < 2 ^ 64 → n ≤ 64 * k → AreWords words n
zero_words words n k is fits room = record {
  fits = fits;
  room = let long : length words ≡ k = ap length is ∙ length-replicate k 0 in omega (arith, room, long);
  rest = λ p past. no_bit words p (ap (λ w. bit_at w (p % 64)) (ap (λ ws. get_or ws (p / 64) 0) is ∙ zero_at k (p / 64) 0) ∙ bit_at-zero (p % 64));
}

-- one more place is marked
pub all_more : (marks new : List Bool) (i n : ℕ) → new ≡ slice_set marks i true → length marks ≡ n → i < n → ((p : ℕ) → p < i → slice_get marks p ≡ Some true) → (length new ≡ n) × ((p : ℕ) → p < i + 1 → slice_get new p ≡ Some true)
all_more marks new i n is long below told = (
  ap length is ∙ (length-set marks i true ∙ long),
  λ p low. ap (λ ms. slice_get ms p) is ∙ elim (same_or_not p i) [
    | inl e ↦ ap (slice_get (slice_set marks i true)) e ∙ slice_get-set_same marks i true (omega (arith, below, long))
    | inr differ ↦ slice_get-set_other marks i p true differ ∙ told p (omega (arith, low, differ))
  ],
)

shifted : (w s i : ℕ) → bit_at (w / 2 ^ s) i ≡ bit_at w (s + i)
shifted w s i = ap (λ m. m % 2) (div-div-eq-div-mul w (2 ^ s) (2 ^ i) ∙ ap (λ m. w / m) (sym (pow-add 2 s i)))

-- the bit at a digit of a word
digit_at : (words : List ℕ) (k j : ℕ) → j < 64 → is_one words (64 * k + j) ≡ nat_eq (bit_at (get_or words k 0) j) 1
digit_at words k j low =
    let split = mod-add-div (64 * k + j) 64 in
    let small : (64 * k + j) % 64 < 64 = mod-lt (64 * k + j) (omega arith) in
    let word : (64 * k + j) / 64 ≡ k = omega (arith, split, small, low) in
    let rest : (64 * k + j) % 64 ≡ j = omega (arith, split, small, low) in
    ap (λ i. nat_eq (bit_at (get_or words i 0) ((64 * k + j) % 64)) 1) word ∙ ap (λ i. nat_eq (bit_at (get_or words k 0) i) 1) rest

digit_none : (words : List ℕ) (k q : ℕ) → 64 * k ≤ q → q < 64 * k + 64 → bit_at (get_or words k 0) (q - 64 * k) ≡ 0 → is_one words q ≡ false
digit_none words k q low high none =
    let same : q ≡ 64 * k + (q - 64 * k) = omega (arith, low) in
    ap (is_one words) same ∙ (digit_at words k (q - 64 * k) (omega (arith, low, high)) ∙ ap (λ x. nat_eq x 1) none)

module _ (words : List ℕ) (n : ℕ) (seen : List Bool) (is : bits_of words n ≡ seen) (are : AreWords words n) where
  not_marked : (q : ℕ) → is_one words q ≡ false → slice_get seen q ≢ Some true
  not_marked q none at =
      let here : slice_get (bits_of words n) q ≡ Some true = ap (λ ms. slice_get ms q) is ∙ at in
      let below : q < n = let low = slice_get_within (bits_of words n) q true here in let long = bits_long words n in omega (arith, low, long) in
      both_ways (is_one words q) none (same_Some (is_one words q) true (sym (bit_here words n q below) ∙ here))

  -- a bit that is 1 where none is before it
  found : (from p : ℕ) → from ≤ p → is_one words p ≡ true → ((q : ℕ) → from ≤ q → q < p → is_one words q ≡ false) → IsNextAt seen from p × (p < n)
  found from p past one first =
      let below : p < n = elim (below_or n p) [ inl high ↦ absurd (both_ways (is_one words p) (are.rest p high) one) | inr low ↦ low ] in (
        record {
          past = past;
          marked = ap (λ ms. slice_get ms p) (sym is) ∙ (bit_here words n p below ∙ ap (λ b. Some b) one);
          first = λ q low high. not_marked q (first q low high);
        },
        below,
      )

  -- the lowest bit of a word, where none is 1 before the word
  pub found_in : (from k w j : ℕ) → k < length words → w ≡ get_or words k w → IsLowestAt w j → from ≤ 64 * k → ((q : ℕ) → from ≤ q → q < 64 * k → is_one words q ≡ false) → IsNextAt seen from (64 * k + j) × (64 * k + j < n)
  found_in from k w j below read lowest past before =
      let value : w ≡ get_or words k 0 = get_or_read words k w below read 0 in
      let low : j < 64 = lowest.low in
      found from (64 * k + j) (omega (arith, past))
      (digit_at words k j low ∙ ap (λ x. nat_eq x 1) (ap (λ x. bit_at x j) (sym value) ∙ lowest.one))
      (λ q here there. elim (below_or (64 * k) q) [
        | inl high ↦ digit_none words k q high (omega (arith, there, low)) (ap (λ x. bit_at x (q - 64 * k)) (sym value) ∙ lowest.first (q - 64 * k) (omega (arith, high, there)))
        | inr earlier ↦ before q here earlier
      ])

  -- a word without bits
  pub none_more : (from k w : ℕ) → k < length words → w ≡ get_or words k w → w ≡ 0 → ((q : ℕ) → from ≤ q → q < 64 * k → is_one words q ≡ false) → (q : ℕ) → from ≤ q → q < 64 * (k + 1) → is_one words q ≡ false
  none_more from k w below read none before q here there = elim (below_or (64 * k) q) [
    | inl high ↦ digit_none words k q high (omega (arith, there)) (ap (λ x. bit_at x (q - 64 * k)) (sym (get_or_read words k w below read 0) ∙ none) ∙ bit_at-zero (q - 64 * k))
    | inr earlier ↦ before q here earlier
  ]

  -- behind the last word
  pub none_left : (from k : ℕ) → length words ≤ k → ((q : ℕ) → from ≤ q → q < 64 * k → is_one words q ≡ false) → (q : ℕ) → from ≤ q → slice_get seen q ≢ Some true
  none_left from k all before q here = not_marked q (elim (below_or (64 * k) q) [
    | inl high ↦ past_words words q (let split = mod-add-div q 64 in let small : q % 64 < 64 = mod-lt q (omega arith) in omega (arith, all, high, split, small))
    | inr earlier ↦ before q here earlier
  ])

  -- the rest of the word in which a place is
  module _ (from w : ℕ) (below : from / 64 < length words) (read : w ≡ get_or words (from / 64) w) where
    value : w ≡ get_or words (from / 64) 0
    value = get_or_read words (from / 64) w below read 0

    parts : from ≡ 64 * (from / 64) + from % 64
    parts = let split = mod-add-div from 64 in omega (arith, split)

    further : (q : ℕ) → from ≤ q → q < 64 * (from / 64) + 64 → bit_at (w / 2 ^ (from % 64)) (q - from) ≡ 0 → is_one words q ≡ false
    further q here there none =
        let same : from % 64 + (q - from) ≡ q - 64 * (from / 64) = omega (arith, here, parts) in
        digit_none words (from / 64) q (omega (arith, here, parts)) there
        (ap (λ x. bit_at x (q - 64 * (from / 64))) (sym value) ∙ (ap (bit_at w) (sym same) ∙ (sym (shifted w (from % 64) (q - from)) ∙ none)))

    pub found_further : (j : ℕ) → w < 2 ^ 64 → IsLowestAt (w / 2 ^ (from % 64)) j → IsNextAt seen from (from + j) × (from + j < n)
    found_further j fits lowest =
        let one : bit_at w (from % 64 + j) ≡ 1 = sym (shifted w (from % 64) j) ∙ lowest.one in
        let low : from % 64 + j < 64 = elim (below_or 64 (from % 64 + j)) [ inl high ↦ absurd (let none = bit_at_above w 64 (from % 64 + j) fits high in omega (arith, none, one)) | inr small ↦ small ] in
        let same : from + j ≡ 64 * (from / 64) + (from % 64 + j) = omega (arith, parts) in
        found from (from + j) (omega arith)
        (ap (is_one words) same ∙ (digit_at words (from / 64) (from % 64 + j) low ∙ ap (λ x. nat_eq x 1) (ap (λ x. bit_at x (from % 64 + j)) (sym value) ∙ one)))
        (λ q here there. further q here (omega (arith, there, low, same)) (lowest.first (q - from) (omega (arith, here, there))))

    pub next_further : w / 2 ^ (from % 64) ≡ 0 → (o : Option ℕ) → IsNext seen (64 * (from / 64 + 1)) o → IsNext seen from o
    next_further none o next =
        let before : (q : ℕ) → from ≤ q → q < 64 * (from / 64 + 1) → slice_get seen q ≢ Some true = λ q here there. not_marked q (further q here (omega (arith, there)) (ap (λ x. bit_at x (q - from)) none ∙ bit_at-zero (q - from))) in
        go before o next
      where
        go : ((q : ℕ) → from ≤ q → q < 64 * (from / 64 + 1) → slice_get seen q ≢ Some true) → (o : Option ℕ) → IsNext seen (64 * (from / 64 + 1)) o → IsNext seen from o
        go before None next = λ q here. elim (below_or (64 * (from / 64 + 1)) q) [ inl high ↦ next q high | inr earlier ↦ before q here earlier ]
        go before (Some p) next = record {
          past = let past = next.past in let split = mod-add-div from 64 in let small : from % 64 < 64 = mod-lt from (omega arith) in omega (arith, past, split, small);
          marked = next.marked;
          first = λ q here there. elim (below_or (64 * (from / 64 + 1)) q) [ inl high ↦ next.first q high there | inr earlier ↦ before q here earlier ];
        }

  -- a place that lies behind all words
  pub next_past : (from : ℕ) → length words ≤ from / 64 → (q : ℕ) → from ≤ q → slice_get seen q ≢ Some true
  next_past from all q here = not_marked q (past_words words q (let one = mod-add-div from 64 in let other = mod-add-div q 64 in let small : q % 64 < 64 = mod-lt q (omega arith) in omega (arith, all, here, one, other, small)))
