-- Bits of words in lanes.
use Rattle.std.proofs.Common.{◌≡◌, ℕ, zero, suc, ◌<◌, Bool, true, false, not, ◌&&◌, ◌||◌, if◌then◌else◌, max, List, [], ◌∷◌, ◌++◌}
use Rattle.std.proofs.Common.{map, length, nat_eq, set, slice_get, slice_index_or, take, Option, Some, None, refl, sym, ◌∙◌, ap, subst, arith}
use Rattle.std.specs.Prelude.{◌==◌, ◌+◌, ◌-◌, ◌%◌, replicate}
use Rattle.std.proofs.Math.Seq.{take-suc-set}
use Rattle.std.specs.Int.{bit_at, trailing_zeros, w64}
use Rattle.std.specs.Int.Bits.{bit_and, bit_or, bit_xor}
use Rattle.std.specs.List.{cons_option}
use Rattle.std.specs.Option.{option_map}
use Rattle.std.proofs.lemmas.Bool.{both_ways}
use Rattle.std.proofs.lemmas.Bool.Decides.{nat_tests}
use Rattle.std.proofs.lemmas.List.{length-replicate, map-append, map-id, map-set}
use Rattle.std.proofs.lemmas.Nat.Bits.{bit_at-lt, bit_at-trailing_zeros, bit_at-zero, bit_at_or, bit_at_xor}
use Rattle.std.proofs.lemmas.Option.{slice_get-map}
use Rattle.cg_cell.specs.Bits.{no_pairs}
use Rattle.cg_cell.specs.Build.{Evaluates, Run}
use Rattle.cg_cell.specs.Domain.{Seen}
use Rattle.cg_cell.specs.Eval.{bits_at}
use Rattle.cg_cell.specs.Gates.{exclusive_or}
use Rattle.cg_netlist.specs.Moment.{bit, values_at}
use Rattle.cg_word.specs.Words.{HasOne, IsWord, LANES, WORDS, lane, lane_bit, word_not, words_ops}
use Rattle.cg_word.specs.inner.WordsLaws.{and_bit, not_bit}

pub zero_bit : (i : ℕ) → lane_bit i 0 ≡ false
zero_bit i = ap (λ n. n == 1) (bit_at-zero i)

pub or_bit : (a b i : ℕ) → lane_bit i (bit_or a b) ≡ (lane_bit i a || lane_bit i b)
or_bit a b i = ap (λ n. n == 1) (bit_at_or a b i) ∙ either (bit_at a i) (bit_at b i) (bit_at-lt a i) (bit_at-lt b i)
  where
    either : (m n : ℕ) → m < 2 → n < 2 → (max m n == 1) ≡ ((m == 1) || (n == 1))
    either m n small low = grind (arith, nat_tests, small, low)

pub xor_bit : (a b i : ℕ) → lane_bit i (bit_xor a b) ≡ exclusive_or (lane_bit i a) (lane_bit i b)
xor_bit a b i = ap (λ n. n == 1) (bit_at_xor a b i) ∙ one (bit_at a i) (bit_at b i) (bit_at-lt a i) (bit_at-lt b i)
  where
    one : (m n : ℕ) → m < 2 → n < 2 → ((m + n) % 2 == 1) ≡ exclusive_or (m == 1) (n == 1)
    one zero zero small low = refl
    one zero (suc zero) small low = refl
    one zero (suc (suc n)) small low = absurd (omega arith)
    one (suc zero) zero small low = refl
    one (suc zero) (suc zero) small low = refl
    one (suc zero) (suc (suc n)) small low = absurd (omega arith)
    one (suc (suc m)) n small low = absurd (omega arith)

-- a word that is not 0 is 1 in some lane
pub some_lane : (word : ℕ) → word < WORDS → not (nat_eq word 0) ≡ true → HasOne word
some_lane word below some =
    let first = bit_at-trailing_zeros w64 word (positive word some) below in
    record { in_lane = trailing_zeros w64 word; below = first.0; one = ap (λ n. n == 1) first.1 }
  where
    positive : (n : ℕ) → not (nat_eq n 0) ≡ true → 0 < n
    positive zero h = absurd (both_ways false refl h)
    positive (suc n) h = omega arith

-- a word that is 1 in some lane is not 0
pub not_zero : (word : ℕ) → HasOne word → not (nat_eq word 0) ≡ true
not_zero zero one = absurd (both_ways (lane_bit one.in_lane 0) (zero_bit one.in_lane) one.one)
not_zero (suc word) one = grind (arith, nat_tests)

-- words at places
pub lane_get : (i : ℕ) (words : List ℕ) (k word : ℕ) → slice_get words k ≡ Some word → slice_get (lane i words) k ≡ Some (lane_bit i word)
lane_get i words k word at = slice_get-map (lane_bit i) words k ∙ ap (option_map (lane_bit i)) at

pub lane_or : (i : ℕ) (words : List ℕ) (k : ℕ) → bit (lane i words) k ≡ lane_bit i (slice_index_or words k 0)
lane_or i [] k = sym (zero_bit i)
lane_or i (word ∷ words) zero = refl
lane_or i (word ∷ words) (suc k) = lane_or i words k

pub lane_values : (i : ℕ) (words : List ℕ) (nets : List ℕ) → lane i (values_at words nets) ≡ values_at (lane i words) nets
lane_values i words [] = refl
lane_values i words (net ∷ nets) =
    moved (slice_get words net) (values_at words nets) ∙ (ap (λ o. cons_option o (lane i (values_at words nets))) (sym (slice_get-map (lane_bit i) words net)) ∙ ap (cons_option (slice_get (lane i words) net)) (lane_values i words nets))
  where
    moved : (o : Option ℕ) (rest : List ℕ) → lane i (cons_option o rest) ≡ cons_option (option_map (lane_bit i) o) (lane i rest)
    moved None rest = refl
    moved (Some word) rest = refl

pub lane_set : (i : ℕ) (words : List ℕ) (k word : ℕ) → lane i (set words k word) ≡ set (lane i words) k (lane_bit i word)
lane_set i words k word = map-set (lane_bit i) words k word

-- an evaluation over words gives in each lane the value at the bits of that lane
pub evaluated : (word : ℕ) (inputs : List ℕ) (value : List Bool → Bool) (t : Seen) (run : Run)
    → Evaluates words_ops no_pairs t word run (λ bits. value (bits_at words_ops no_pairs (map (λ a. a) inputs) bits)) → IsWord word (λ i. value (lane i inputs))
evaluated word inputs value t run h = record {
  at = λ i below.
      let bits : List Bool = replicate i false in
      let long : length bits ≡ i = length-replicate i false in
      let is : length bits % LANES ≡ i = ap (λ n. n % LANES) long ∙ small i below in
      subst (λ j. lane_bit j word ≡ value (lane j (map (λ a. a) inputs))) is (h.stands.bit bits) ∙ ap (λ words. value (lane i words)) (map-id inputs);
}
  where
    small : (n : ℕ) → n < LANES → n % LANES ≡ n
    small n below = omega (arith, below)

-- a word that is one of others
pub is_word : (word : ℕ) (f g : ℕ → Bool) → ((i : ℕ) → i < LANES → f i ≡ g i) → IsWord word f → IsWord word g
is_word word f g same is = record { at = λ i below. is.at i below ∙ same i below }

-- the inverse of a word, as it is computed
pub complement : (word : ℕ) → word < WORDS → WORDS - 1 - word ≡ word_not word
complement word below =
    let same : word % WORDS ≡ word = omega (arith, below) in
    ap (λ n. WORDS - 1 - n) (sym same)

-- the first word where the test is 1, and else the second
pub selected : (test first second : ℕ) → IsWord (bit_or (bit_and test first) (bit_and (word_not test) second)) (λ i. if lane_bit i test then lane_bit i first else lane_bit i second)
selected test first second = record {
  at = λ i below.
      or_bit (bit_and test first) (bit_and (word_not test) second) i
      ∙ (ap (λ b. b || lane_bit i (bit_and (word_not test) second)) (and_bit test first i)
      ∙ (ap (λ b. (lane_bit i test && lane_bit i first) || b) (and_bit (word_not test) second i ∙ ap (λ b. b && lane_bit i second) (not_bit test i below))
      ∙ choose (lane_bit i test) (lane_bit i first) (lane_bit i second)));
}
  where
    choose : (t a b : Bool) → ((t && a) || (not t && b)) ≡ (if t then a else b)
    choose true true b = refl
    choose true false b = refl
    choose false a b = refl

-- words that were read, and one behind them
pub own_behind : (i : ℕ) (nets inputs scratch : List ℕ) (own : ℕ) → length inputs < length scratch → take (length inputs) scratch ≡ values_at nets inputs
    → lane i (take (length inputs + 1) (set scratch (length inputs) own)) ≡ values_at (lane i nets) inputs ++ lane_bit i own ∷ []
own_behind i nets inputs scratch own small read =
    let n : ℕ = length inputs in
    let e : n + 1 ≡ suc n = omega arith in
    ap (λ k. lane i (take k (set scratch n own))) e
    ∙ (ap (lane i) (take-suc-set scratch n own small ∙ ap (λ l. l ++ own ∷ []) read)
    ∙ (map-append (lane_bit i) (values_at nets inputs) (own ∷ []) ∙ ap (λ l. l ++ lane_bit i own ∷ []) (lane_values i nets inputs)))
