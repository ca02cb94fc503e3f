-- The laws of the domain of words.
use Rattle.std.specs.Prelude.{◌≡◌, ◌==◌, ℕ, ◌+◌, ◌-◌, ◌*◌, ◌/◌, ◌%◌, ◌<◌, Bool, true, false, not, ◌&&◌, if◌then◌else◌, List}
use Rattle.std.specs.Prelude.{length, [], min, refl}
use Rattle.std.specs.Int.{bit_at, w64}
use Rattle.std.specs.Int.Bits.{bit_and}
use Rattle.std.proofs.Common.{◌∙◌, arith, sym, append-nil, ap}
use Rattle.std.proofs.lemmas.Nat.Bits.{bit_at-lt, bit_at-zero, bit_at_and, bit_at_cat_low, bit_at_not, bit_at_ones}
use Rattle.std.proofs.lemmas.Bool.Decides.{nat_tests}
use Rattle.cg_cell.specs.Domain.{IsDomain, Keeps, Seen}
use Rattle.cg_word.specs.Words.{LANES, WORDS, lane_bit, word_not, words_ops}

same : (s : Seen) → Keeps words_ops s s
same s = record {
  number = refl;
  pairs = record { added = []; whole = sym (append-nil s.pairs) };
  valid = λ a h. h;
  bits = λ a bits h. refl;
}

-- the lane that an assignment stands for
abbrev in_lane : List Bool → ℕ
in_lane bits = length bits % LANES

is_lane : (bits : List Bool) → in_lane bits < LANES
is_lane bits = omega arith

pub constant_bit : (b : Bool) (i : ℕ) → i < LANES → lane_bit i (if b then WORDS - 1 else 0) ≡ b
constant_bit true i below = ap (λ n. n == 1) (bit_at_ones 64 i below)
constant_bit false i below = ap (λ n. n == 1) (bit_at-zero i)

low_bit : (a i : ℕ) → i < LANES → bit_at (a % WORDS) i ≡ bit_at a i
low_bit a i below =
    let parts : a ≡ a / WORDS * WORDS + a % WORDS = omega arith in
    sym (ap (λ n. bit_at n i) parts ∙ bit_at_cat_low (a / WORDS) 64 (a % WORDS) i below)

pub not_bit : (a i : ℕ) → i < LANES → lane_bit i (word_not a) ≡ not (lane_bit i a)
not_bit a i below =
    let inverse = bit_at_not w64 (a % WORDS) i (omega arith) below in
    let same = low_bit a i below in
    let small = bit_at-lt a i in
    ap (λ n. n == 1) (inverse ∙ ap (λ n. 1 - n) same) ∙ other (bit_at a i) small
  where
    other : (n : ℕ) → n < 2 → (1 - n == 1) ≡ not (n == 1)
    other n small = grind (arith, nat_tests, small)

pub and_bit : (a b i : ℕ) → lane_bit i (bit_and a b) ≡ lane_bit i a && lane_bit i b
and_bit a b i = ap (λ n. n == 1) (bit_at_and a b i) ∙ both (bit_at a i) (bit_at b i) (bit_at-lt a i) (bit_at-lt b i)
  where
    both : (m n : ℕ) → m < 2 → n < 2 → (min m n == 1) ≡ (m == 1) && (n == 1)
    both m n small low = grind (arith, nat_tests, small, low)

pub words_lawful : IsDomain words_ops
words_lawful = record {
  sound = λ s a h. refl;
  constant_stands =
      λ s b h. record { keeps = same s; valid = refl; bit = λ bits. constant_bit b (in_lane bits) (is_lane bits) };
  not_stands = λ s a h. record { keeps = same s; valid = refl; bit = λ bits. not_bit a (in_lane bits) (is_lane bits) };
  and_stands = λ s a b h k. record { keeps = same s; valid = refl; bit = λ bits. and_bit a b (in_lane bits) };
}
