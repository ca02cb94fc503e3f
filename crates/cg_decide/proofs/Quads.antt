-- Words of nodes under all assignments: leaves, the and of two literals, inverses; and what all words together say of a goal.
use Rattle.std.specs.Prelude.{◌≡◌, ◌==◌, ◌<◌, ◌≤◌, ℕ, suc, ◌+◌, ◌-◌, ◌*◌, ◌/◌, ◌%◌, ◌^◌, Bool, true, false, not, ◌&&◌}
use Rattle.std.specs.Prelude.{List, [], ◌∷◌, ◌++◌, length, nat_lt, slice_index_or, slice_get, Some, IsTrue, refl}
use Rattle.std.specs.Int.{bit_at}
use Rattle.std.specs.Int.Bits.{bit_and}
use Rattle.std.proofs.Common.{◌∙◌, sym, ap, subst, arith, length-append}
use Rattle.std.proofs.lemmas.Bool.{ltb-false, ltb-true}
use Rattle.std.proofs.lemmas.List.{get_or_append_left}
use Rattle.std.proofs.lemmas.Nat.Bits.{bit_at-zero}
use Rattle.std.proofs.lemmas.Option.{get_or_from_slice_get, slice_get-get_or, slice_get_within}
use Rattle.std.proofs.Math.Seq.{get_or-append_seam}
use Rattle.cg_cell.specs.Domain.{Seen}
use Rattle.cg_aig.specs.Aig.{inverse, is_sound, leaf_bits, lit_bit, node_values}
use Rattle.cg_aig.specs.AigLaws.{bit_of_zero, node_bit}
use Rattle.cg_aig.specs.Values.{inverse_even, leaf_bits_all, lit_even, lit_inverse, values_keep}
use Rattle.cg_decide.specs.Decision.{IsNeverOne}
use Rattle.cg_decide.specs.declared.lanes.Quad.{Quad}
use Rattle.cg_decide.specs.inner.Assignments.{AreQuads, IsPlaceWord, IsQuad, IsWord, IsZero, IsZeroBelow, LANES, assigned, lane_bit, word_not}
use Rattle.cg_decide.proofs.Assigned.{assigned_at, assigned_is, lane_and, lane_not, length-assigned, number_below, number_of}

-- the constant 0
pub zero_word : (s : Seen) (number : ℕ) → IsWord s 0 number 0
zero_word s number = record {
  at = λ i below. ap (λ n. n == 1) (bit_at-zero i) ∙ sym (bit_of_zero s (assigned s.number (number * LANES + i)));
}

-- a leaf
pub leaf_is : (s : Seen) (leaf number word : ℕ) → leaf < s.number → IsPlaceWord (s.number - 1 - leaf) number word → IsWord s (2 * (1 + leaf)) number word
leaf_is s leaf number word below is = record {
  at = λ i lane.
      let bits = assigned s.number (number * LANES + i) in
      let long = length-assigned s.number (number * LANES + i) in
      let leaves : leaf_bits s.number bits ≡ bits = ap (λ n. leaf_bits n bits) (sym long) ∙ leaf_bits_all bits in
      let half : (2 * (1 + leaf)) / 2 ≡ 1 + leaf = omega arith in
      let behind : 1 + leaf ≡ suc leaf = omega arith in
      let kept : slice_index_or (node_values s bits) (1 + leaf) false ≡ slice_index_or (false ∷ leaf_bits s.number bits) (1 + leaf) false =
      values_keep (false ∷ leaf_bits s.number bits) s.pairs (1 + leaf) (let e = ap (λ (l : List Bool). length l) leaves in omega (arith, e, long)) in
      is.at i lane
      ∙ (sym (assigned_at s.number (number * LANES + i) leaf below)
      ∙ sym (lit_even (node_values s bits) (2 * (1 + leaf)) (omega arith)
      ∙ (ap (λ k. slice_index_or (node_values s bits) k false) half
      ∙ (kept
      ∙ (ap (λ (l : List Bool). slice_index_or (false ∷ l) (1 + leaf) false) leaves
      ∙ ap (λ n. slice_index_or (false ∷ bits) n false) behind)))));
}

-- the inverse of a literal
pub other_is : (s : Seen) (literal number word : ℕ) → IsWord s literal number word → IsWord s (inverse literal) number (word_not word)
other_is s literal number word is = record {
  at = λ i lane.
      let values = node_values s (assigned s.number (number * LANES + i)) in
      lane_not word i lane ∙ (ap not (is.at i lane) ∙ sym (lit_inverse values literal));
}

-- an and-node
pub both_is : (s : Seen) (k number : ℕ) (p : ℕ × ℕ) (a b : ℕ) → IsTrue (is_sound s) → slice_get s.pairs k ≡ Some p →
    IsWord s p.0 number a → IsWord s p.1 number b → IsWord s (2 * (1 + s.number + k)) number (bit_and a b)
both_is s k number p a b sound at left right = record {
  at = λ i lane.
      let bits = assigned s.number (number * LANES + i) in
      let v : ℕ → Bool = lit_bit (node_values s bits) in
      lane_and a b i
      ∙ (ap (λ x. x && lane_bit i b) (left.at i lane) ∙ ap (λ x. v p.0 && x) (right.at i lane))
      ∙ sym (node_bit s k p bits sound at);
}

-- a literal, by the node that it is of
pub plain_is : (s : Seen) (literal number : ℕ) (q : Quad) → literal % 2 ≡ 0 → IsQuad s (2 * (literal / 2)) number q → IsQuad s literal number q
plain_is s literal number q even is = let e : 2 * (literal / 2) ≡ literal = omega arith in subst (λ l. IsQuad s l number q) e is

pub inverted_is : (s : Seen) (literal number : ℕ) (q : Quad) → literal % 2 ≡ 1 → IsQuad s (inverse (2 * (literal / 2))) number q → IsQuad s literal number q
inverted_is s literal number q odd is =
    let e : inverse (2 * (literal / 2)) ≡ literal = inverse_even (2 * (literal / 2)) (omega arith) ∙ omega arith in
    subst (λ l. IsQuad s l number q) e is

-- no nodes
pub quads_none : (s : Seen) (number : ℕ) (quads : List Quad) → quads ≡ [] → AreQuads s number quads
quads_none s number quads none = subst (AreQuads s number) (sym none) (λ node found at. absurd cc)

-- one more node
pub quads_push : (s : Seen) (number : ℕ) (quads : List Quad) (q : Quad) → AreQuads s number quads → IsQuad s (2 * length quads) number q → AreQuads s number (quads ++ q ∷ [])
quads_push s number quads q are last = λ node found at.
    let long = length-append quads (q ∷ []) in
    let there = slice_get_within (quads ++ q ∷ []) node found at in
    by node found at (nat_lt node (length quads)) refl (omega (arith, long, there))
  where
    by : (node : ℕ) (found : Quad) → slice_get (quads ++ q ∷ []) node ≡ Some found → (b : Bool) → nat_lt node (length quads) ≡ b → node < length quads + 1 → IsQuad s (2 * node) number found
    by node found at true e h =
        let less = ltb-true node (length quads) e in
        let same = sym (get_or_append_left quads (q ∷ []) q node less) ∙ get_or_from_slice_get (quads ++ q ∷ []) node found q at in
        are node found (slice_get-get_or quads node q less ∙ ap (λ (x : Quad). Some x) same)
    by node found at false e h =
        let more = ltb-false node (length quads) e in
        let equal : length quads ≡ node = omega (arith, h, more) in
        let same = sym (get_or-append_seam quads q [] q) ∙ (ap (λ n. slice_index_or (quads ++ q ∷ []) n q) equal ∙ get_or_from_slice_get (quads ++ q ∷ []) node found q at) in
        subst (λ n. IsQuad s (2 * n) number found) equal (subst (λ x. IsQuad s (2 * length quads) number x) same last)

-- where the words of a goal have no 1, it is 0 under the assignments of their lanes
zero_lane : (s : Seen) (goal number word a : ℕ) → IsWord s goal number word → word ≡ 0 → number * LANES ≤ a → a < (number + 1) * LANES →
    lit_bit (node_values s (assigned s.number a)) goal ≡ false
zero_lane s goal number word a is none low high =
    let sum : number * LANES + (a - number * LANES) ≡ a = omega arith in
    let lane : a - number * LANES < LANES = omega arith in
    ap (λ n. lit_bit (node_values s (assigned s.number n)) goal) (sym sum)
    ∙ (sym (is.at (a - number * LANES) lane)
    ∙ ap (λ n. n == 1) (ap (λ w. bit_at w (a - number * LANES)) none ∙ bit_at-zero (a - number * LANES)))

pub zero_more : (s : Seen) (goal number : ℕ) (q : Quad) → IsZeroBelow s goal (256 * number) → IsQuad s goal number q → IsZero q → IsZeroBelow s goal (256 * (number + 1))
zero_more s goal number q before is none = λ a below.
    by1 a below (nat_lt a (256 * number)) refl
  where
    by4 : (a : ℕ) → a < 256 * (number + 1) → 256 * number + 192 ≤ a → lit_bit (node_values s (assigned s.number a)) goal ≡ false
    by4 a below h = zero_lane s goal (4 * number + 3) q.fourth a is.fourth none.fourth (omega arith) (omega arith)

    by3 : (a : ℕ) → a < 256 * (number + 1) → 256 * number + 128 ≤ a → (b : Bool) → nat_lt a (256 * number + 192) ≡ b → lit_bit (node_values s (assigned s.number a)) goal ≡ false
    by3 a below h true e = let less = ltb-true a (256 * number + 192) e in zero_lane s goal (4 * number + 2) q.third a is.third none.third (omega arith) (omega arith)
    by3 a below h false e = by4 a below (ltb-false a (256 * number + 192) e)

    by2 : (a : ℕ) → a < 256 * (number + 1) → 256 * number + 64 ≤ a → (b : Bool) → nat_lt a (256 * number + 128) ≡ b → lit_bit (node_values s (assigned s.number a)) goal ≡ false
    by2 a below h true e = let less = ltb-true a (256 * number + 128) e in zero_lane s goal (4 * number + 1) q.second a is.second none.second (omega arith) (omega arith)
    by2 a below h false e = by3 a below (ltb-false a (256 * number + 128) e) (nat_lt a (256 * number + 192)) refl

    by0 : (a : ℕ) → a < 256 * (number + 1) → 256 * number ≤ a → (b : Bool) → nat_lt a (256 * number + 64) ≡ b → lit_bit (node_values s (assigned s.number a)) goal ≡ false
    by0 a below h true e = let less = ltb-true a (256 * number + 64) e in zero_lane s goal (4 * number) q.first a is.first none.first (omega arith) (omega arith)
    by0 a below h false e = by2 a below (ltb-false a (256 * number + 64) e) (nat_lt a (256 * number + 128)) refl

    by1 : (a : ℕ) → a < 256 * (number + 1) → (b : Bool) → nat_lt a (256 * number) ≡ b → lit_bit (node_values s (assigned s.number a)) goal ≡ false
    by1 a below true e = before a (ltb-true a (256 * number) e)
    by1 a below false e = by0 a below (ltb-false a (256 * number) e) (nat_lt a (256 * number + 64)) refl

-- a goal that is 0 under all assignments is never 1
pub never_is : (s : Seen) (goal count : ℕ) → IsZeroBelow s goal count → 2 ^ s.number ≤ count → IsNeverOne s goal
never_is s goal count none enough = λ bits long.
    let below = number_below bits in
    let power = ap (λ n. 2 ^ n) long in
    let same : assigned s.number (number_of bits) ≡ bits = ap (λ n. assigned n (number_of bits)) (sym long) ∙ assigned_is bits in
    ap (λ (l : List Bool). lit_bit (node_values s l) goal) (sym same) ∙ none (number_of bits) (omega (arith, below, power, enough))
