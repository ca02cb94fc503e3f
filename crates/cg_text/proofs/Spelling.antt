-- A number below 2 ^ 64 has one spelling.
use Rattle.std.proofs.Common.{◌≡◌, ℕ, ◌<◌, ◌^◌, Bool, true, false, not, ◌&&◌, ◌||◌, ◌==◌, List, [], ◌∷◌, length, get_or}
use Rattle.std.proofs.Common.{slice_index, suc, zero, ◌≤◌, nat_le, inl, inr, refl, sym, ap, ◌∙◌, nat_lt, rules, arith}
use Rattle.std.proofs.lemmas.Fmt.{digits_decimal, digits_value-decimal, decimal-digits_value, first_decimal, decimal_nonempty}
use Rattle.std.proofs.lemmas.Fmt.{decimal_digit}
use Rattle.std.proofs.lemmas.Bool.{and_parts, eqb-false, eqb-true, leb-true, lt-ltb, ltb-true, ne_eqb, not-true, or_cases}
use Rattle.std.proofs.lemmas.Bool.Decides.{nat_tests}
use Rattle.std.proofs.lemmas.Str.Parse.{IsNumeralModel, numerals_by_fold}
use Rattle.std.specs.Str.{all_ascii_digits}
use Rattle.std.specs.Fmt.{decimal}
use Rattle.std.specs.Char.{is_ascii_digit}
use Rattle.std.specs.List.{AllByRecursion}
use Rattle.cg_text.specs.declared.blanks.Blanks.{Blanks}
use Rattle.cg_text.specs.declared.blanks.Blanks.TheVariants.{Whitespace, Controls, Spaces}
use Rattle.cg_text.specs.Blanks.{is_blank}
use Rattle.cg_text.specs.Written.{IsWord}
use Rattle.cg_text.specs.declared.number.Number.TheVariants.{Small, Large, Misspelled}
use Rattle.cg_text.specs.Numbers.{is_number, digits_after, number_of}

own : IsNumeralModel (λ ds. all_ascii_digits ds ≡ true) (digits_after 0)
own = numerals_by_fold _ (search rules) digits_after (search rules)

-- a word that is read as a number is that number's spelling
spelling : (word : List ℕ) → is_number word ≡ true → digits_after 0 word < 2 ^ 64 → decimal (digits_after 0 word) ≡ word
spelling word e small =
    let parts = and_parts (not (length word == 0) && (not (slice_index word 0 == 48) || length word == 1)) (all_ascii_digits word) e in
    let front = and_parts (not (length word == 0)) (not (slice_index word 0 == 48) || length word == 1) parts.0 in
    let some : length word ≡ 0 → ⊥ = eqb-false (length word) 0 (not-true (length word == 0) front.0) in
    let full : 0 < length word = omega arith in
    decimal-digits_value own word parts.1 full (leads front.1) small where
      leads : (not (slice_index word 0 == 48) || length word == 1) ≡ true → get_or word 0 0 ≡ 48 → length word ≡ 1
      leads h zero_first =
          elim (or_cases (not (slice_index word 0 == 48)) (length word == 1) h) [
            | inl other ↦ absurd (eqb-false (get_or word 0 0) 48 (not-true (slice_index word 0 == 48) other) zero_first)
            | inr alone ↦ eqb-true (length word) 1 alone
          ]

pub spelled : (word : List ℕ) (n : ℕ) → number_of word ≡ Small n → word ≡ decimal n
spelled word n e = pick (is_number word) refl (nat_lt (digits_after 0 word) (2 ^ 64)) refl where
  pick : (b : Bool) → is_number word ≡ b → (small : Bool) → nat_lt (digits_after 0 word) (2 ^ 64) ≡ small → word ≡ decimal n
  pick true f true g =
      let small : Small (digits_after 0 word) ≡ Small n = rw (f, g) at e in
      let value : digits_after 0 word ≡ n = cc in
      sym (spelling word f (ltb-true (digits_after 0 word) (2 ^ 64) g)) ∙ ap decimal value
  pick true f false g = let no : Large ≡ Small n = rw (f, g) at e in absurd (cc)
  pick false f small g = let no : Misspelled ≡ Small n = rw f at e in absurd (cc)

-- and the number is small
pub number_small : (word : List ℕ) (n : ℕ) → number_of word ≡ Small n → n < 2 ^ 64
number_small word n e = pick (is_number word) refl (nat_lt (digits_after 0 word) (2 ^ 64)) refl where
  pick : (b : Bool) → is_number word ≡ b → (small : Bool) → nat_lt (digits_after 0 word) (2 ^ 64) ≡ small → n < 2 ^ 64
  pick true f true g =
      let small : Small (digits_after 0 word) ≡ Small n = rw (f, g) at e in
      let value : digits_after 0 word ≡ n = cc in
      let below : digits_after 0 word < 2 ^ 64 = ltb-true (digits_after 0 word) (2 ^ 64) g in
      omega (arith, value, below)
  pick true f false g = let no : Large ≡ Small n = rw (f, g) at e in absurd (cc)
  pick false f small g = let no : Misspelled ≡ Small n = rw f at e in absurd (cc)

leading : (n : ℕ) → n < 2 ^ 64 → (not (slice_index (decimal n) 0 == 48) || length (decimal n) == 1) ≡ true
leading zero small = rw (decimal_digit 0 (omega arith)) refl
leading (suc n) small =
    let over : 48 < get_or (decimal (suc n)) 0 0 = first_decimal (suc n) (omega arith) small in
    let other : (slice_index (decimal (suc n)) 0 == 48) ≡ false = ne_eqb (get_or (decimal (suc n)) 0 0) 48 (λ e. omega (arith, e)) in
    rw other refl

pub is_number-decimal : (n : ℕ) → n < 2 ^ 64 → is_number (decimal n) ≡ true
is_number-decimal n small =
    let full : 0 < length (decimal n) = decimal_nonempty n small in
    let some : (length (decimal n) == 0) ≡ false = ne_eqb (length (decimal n)) 0 (λ e. omega (arith, e)) in
    let digits : all_ascii_digits (decimal n) ≡ true = digits_decimal own n small in
    rw (some, leading n small, digits) refl

-- a number below 2 ^ 64 is read from its spelling
pub number_of-decimal : (n : ℕ) → n < 2 ^ 64 → number_of (decimal n) ≡ Small n
number_of-decimal n small =
    let value : digits_after 0 (decimal n) ≡ n = digits_value-decimal own n small in
    rw (is_number-decimal n small, value, lt-ltb n (2 ^ 64) small) refl

-- the digits of a number are bytes from 48 to 57
digits_within : (P : ℕ → Type 0) → ((b : ℕ) → 48 ≤ b → b ≤ 57 → P b) → (ds : List ℕ) → all_ascii_digits ds ≡ true → AllByRecursion P ds
digits_within P each [] e = tt
digits_within P each (d ∷ ds) e =
    let parts = and_parts (is_ascii_digit d) (all_ascii_digits ds) e in
    let range = and_parts (nat_le 48 d) (nat_le d 57) parts.0 in
    (each d (leb-true 48 d range.0) (leb-true d 57 range.1), digits_within P each ds parts.1)

pub decimal_bytes : (P : ℕ → Type 0) → ((b : ℕ) → 48 ≤ b → b ≤ 57 → P b) → (n : ℕ) → n < 2 ^ 64 → AllByRecursion P (decimal n)
decimal_bytes P each n small = digits_within P each (decimal n) (digits_decimal own n small)

digit_is_no_blank : (blanks : Blanks) (b : ℕ) → 48 ≤ b → b ≤ 57 → is_blank blanks b ≡ false
digit_is_no_blank Whitespace b low high = grind (arith, nat_tests)
digit_is_no_blank Controls b low high = grind (arith, nat_tests)
digit_is_no_blank Spaces b low high = grind (arith, nat_tests)

pub decimal_word : (blanks : Blanks) (n : ℕ) → n < 2 ^ 64 → IsWord blanks (decimal n)
decimal_word blanks n small = record { full = decimal_nonempty n small; whole = decimal_bytes (λ b. is_blank blanks b ≡ false) (digit_is_no_blank blanks) n small }
