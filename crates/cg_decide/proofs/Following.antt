-- Literals that are followed keep their bits where the assumed one is 1.
use Rattle.std.specs.Prelude.{◌≡◌, ◌<◌, ℕ, ◌+◌, ◌-◌, ◌*◌, ◌/◌, ◌%◌, Bool, true, false, not, ◌&&◌}
use Rattle.std.specs.Prelude.{List, [], ◌∷◌, ◌++◌, length, nat_lt, slice_index_or, slice_get, Some, IsTrue, refl}
use Rattle.std.proofs.Common.{◌∙◌, sym, ap, subst, arith, inl, inr, length-append}
use Rattle.std.proofs.lemmas.Bool.{ltb-false, ltb-true, not-true}
use Rattle.std.proofs.lemmas.List.{get_or_append_left}
use Rattle.std.proofs.Math.Seq.{get_or-append_seam}
use Rattle.cg_cell.specs.Domain.{Seen, Stands, after}
use Rattle.cg_aig.specs.Aig.{aig_ops, and_with, in_order, inverse, is_sound, lit_bit, node_values, nodes}
use Rattle.cg_aig.specs.Aig.{simple}
use Rattle.cg_aig.specs.AigLaws.{IsLit, and_stands, bit_of_one, bit_of_zero, lit_is, node_bit}
use Rattle.cg_aig.specs.Values.{inverse_even, inverse_odd, lit_even, lit_inverse, lit_odd}
use Rattle.cg_aig.specs.Values.{parity}
use Rattle.cg_decide.specs.Decision.{IsNeverOne}
use Rattle.cg_decide.specs.inner.Assumed.{Agree, Excludes, IsSameThere, followed}

-- a literal of the list that is equal to another where the assumed one is 1
pub record IsEqualThere (s : Seen) (z a r : ℕ) : Type 0 where
  pub valid : r < 2 * nodes s
  pub same : (bits : List Bool) → lit_bit (node_values s bits) z ≡ true → lit_bit (node_values s bits) r ≡ lit_bit (node_values s bits) a

pub inverse_below : (n a : ℕ) → a < 2 * n → inverse a < 2 * n
inverse_below n a h = elim (parity a) [
  | inl e ↦ let f = inverse_even a e in omega arith
  | inr e ↦ let f = inverse_odd a e in omega arith
]

followed_even : (same : List ℕ) (a : ℕ) → a % 2 ≡ 0 → followed same a ≡ slice_index_or same (a / 2) 0
followed_even same a h = rw h refl

followed_odd : (same : List ℕ) (a : ℕ) → a % 2 ≡ 1 → followed same a ≡ inverse (slice_index_or same (a / 2) 0)
followed_odd same a h = rw h refl

pub followed_is : (s : Seen) (z a : ℕ) (same : List ℕ) → Agree s z same → a / 2 < length same → IsEqualThere s z a (followed same a)
followed_is s z a same agree there =
    let r = slice_index_or same (a / 2) 0 in
    let node = agree (a / 2) there in
    elim (parity a) [
      | inl e ↦ subst (IsEqualThere s z a) (sym (followed_even same a e)) (record {
        valid = node.valid;
        same = λ bits one. node.same bits one ∙ sym (lit_even (node_values s bits) a e);
      })
      | inr e ↦ subst (IsEqualThere s z a) (sym (followed_odd same a e)) (record {
        valid = inverse_below (nodes s) r node.valid;
        same = λ bits one. lit_inverse (node_values s bits) r ∙ (ap not (node.same bits one) ∙ sym (lit_odd (node_values s bits) a e));
      })
    ]

-- what stands for the and of two literals where it needs no node
simple_stands : (s : Seen) (a b r : ℕ) → IsLit s a → IsLit s b → simple a b ≡ Some r →
    Stands aig_ops s (after s (and_with (Some r) s (in_order a b))) r (λ bits. lit_bit (node_values s bits) a && lit_bit (node_values s bits) b)
simple_stands s a b r h k e =
    subst (λ found. Stands aig_ops s (after s (and_with found s (in_order a b))) (and_with found s (in_order a b)).answer
    (λ bits. lit_bit (node_values s bits) a && lit_bit (node_values s bits) b)) e (and_stands s a b h k)

-- the node itself
pub own_is : (s : Seen) (z node : ℕ) → node < nodes s → IsSameThere s z node (2 * node)
own_is s z node h = record {
  valid = omega arith;
  same = λ bits one.
      let half : (2 * node) / 2 ≡ node = omega arith in
      lit_even (node_values s bits) (2 * node) (omega arith) ∙ ap (λ k. slice_index_or (node_values s bits) k false) half;
}

-- the node of the assumed literal
pub assumed_is : (s : Seen) (z node : ℕ) → z / 2 ≡ node → IsSameThere s z node (1 - z % 2)
assumed_is s z node h = elim (parity z) [
  | inl e ↦
      let r : 1 ≡ 1 - z % 2 = omega arith in
      subst (IsSameThere s z node) r (record {
        valid = omega arith;
        same = λ bits one. bit_of_one s bits ∙ (sym one ∙ (lit_even (node_values s bits) z e ∙ ap (λ k. slice_index_or (node_values s bits) k false) h));
      })
  | inr e ↦
      let r : 0 ≡ 1 - z % 2 = omega arith in
      subst (IsSameThere s z node) r (record {
        valid = omega arith;
        same = λ bits one. bit_of_zero s bits
            ∙ sym (sym (ap (λ k. slice_index_or (node_values s bits) k false) h) ∙ not-true (slice_index_or (node_values s bits) (z / 2) false) (sym (lit_odd (node_values s bits) z e) ∙ one));
      })
]

-- an and-node by what its operands are equal to
pub pair_is_same : (s : Seen) (z k : ℕ) (p : ℕ × ℕ) (a b r : ℕ) → IsTrue (is_sound s) → slice_get s.pairs k ≡ Some p →
    IsEqualThere s z p.0 a → IsEqualThere s z p.1 b → simple a b ≡ Some r → IsSameThere s z (1 + s.number + k) r
pair_is_same s z k p a b r sound at left right e =
    let st = simple_stands s a b r (record { node = left.valid; sound = sound }) (record { node = right.valid; sound = sound }) e in
    record {
      valid = (lit_is s r st.valid).node;
      same = λ bits one.
          let v : ℕ → Bool = lit_bit (node_values s bits) in
          let half : (2 * (1 + s.number + k)) / 2 ≡ 1 + s.number + k = omega arith in
          st.bit bits
          ∙ (ap (λ x. x && v b) (left.same bits one)
          ∙ (ap (λ x. v p.0 && x) (right.same bits one)
          ∙ (sym (node_bit s k p bits sound at)
          ∙ (lit_even (node_values s bits) (2 * (1 + s.number + k)) (omega arith) ∙ ap (λ i. slice_index_or (node_values s bits) i false) half))));
    }

-- one more node
pub agree_push : (s : Seen) (z a : ℕ) (same : List ℕ) → Agree s z same → IsSameThere s z (length same) a → Agree s z (same ++ a ∷ [])
agree_push s z a same agree last = λ node h.
    let f = length-append same (a ∷ []) in
    by (nat_lt node (length same)) node refl (omega (arith, h, f))
  where
    by : (b : Bool) (node : ℕ) → nat_lt node (length same) ≡ b → node < length same + 1 → IsSameThere s z node (slice_index_or (same ++ a ∷ []) node 0)
    by true node e h =
        let less = ltb-true node (length same) e in
        subst (IsSameThere s z node) (sym (get_or_append_left same (a ∷ []) 0 node less)) (agree node less)
    by false node e h =
        let more = ltb-false node (length same) e in
        let equal : length same ≡ node = omega (arith, h, more) in
        subst (λ n. IsSameThere s z n (slice_index_or (same ++ a ∷ []) n 0)) equal
        (subst (IsSameThere s z (length same)) (sym (get_or-append_seam same a [] 0)) last)

-- an operand that is followed to 0 is 0
pub zero_excludes : (s : Seen) (z other : ℕ) (same : List ℕ) → Agree s z same → other / 2 < length same → followed same other ≡ 0 → Excludes s z other
zero_excludes s z other same agree there none = λ bits one.
    let is = followed_is s z other same agree there in
    sym (is.same bits one) ∙ (ap (lit_bit (node_values s bits)) none ∙ bit_of_zero s bits)

-- an and-node of which one operand excludes the other is never 1
pub excluded_is : (s : Seen) (k goal : ℕ) (p : ℕ × ℕ) → IsTrue (is_sound s) → slice_get s.pairs k ≡ Some p → goal ≡ 2 * (1 + s.number + k) → Excludes s p.0 p.1 → IsNeverOne s goal
excluded_is s k goal p sound at is exclude = λ bits long.
    let v : ℕ → Bool = lit_bit (node_values s bits) in
    ap v is ∙ (node_bit s k p bits sound at ∙ both (v p.0) (v p.1) (exclude bits))
  where
    both : (a b : Bool) → (a ≡ true → b ≡ false) → (a && b) ≡ false
    both true b h = h refl
    both false b h = refl

pub excluded_is_right : (s : Seen) (k goal : ℕ) (p : ℕ × ℕ) → IsTrue (is_sound s) → slice_get s.pairs k ≡ Some p → goal ≡ 2 * (1 + s.number + k) → Excludes s p.1 p.0 → IsNeverOne s goal
excluded_is_right s k goal p sound at is exclude = λ bits long.
    let v : ℕ → Bool = lit_bit (node_values s bits) in
    ap v is ∙ (node_bit s k p bits sound at ∙ both (v p.0) (v p.1) (exclude bits))
  where
    both : (a b : Bool) → (b ≡ true → a ≡ false) → (a && b) ≡ false
    both false b h = refl
    both true true h = h refl
    both true false h = refl
