-- Laws of the values of nodes: how they grow, and what each and-node's value is.
use Rattle.std.specs.Prelude.{◌≡◌, ◌<◌, ℕ, zero, suc, ◌+◌, ◌-◌, ◌*◌, ◌/◌, ◌%◌, Bool, true, false, not, ◌&&◌, nat_lt, List, [], ◌∷◌}
use Rattle.std.specs.Prelude.{◌++◌, length, slice_index_or, slice_get, Some, IsTrue, refl}
use Rattle.std.proofs.Common.{◌∙◌, sym, ap, subst, arith, inl, inr, ◌⊎◌, length-append}
use Rattle.std.proofs.lemmas.List.{get_or_append_left}
use Rattle.std.proofs.lemmas.Bool.{lt-ltb, ltb-true}
use Rattle.std.proofs.Math.Seq.{get_or-append_seam}
use Rattle.cg_cell.specs.Domain.{Seen}
use Rattle.cg_aig.specs.Aig.{are_pairs, inverse, is_pair, leaf_bits, lit_bit, node_values, nodes, values_from}

pub length-leaf_bits : (n : ℕ) (bits : List Bool) → length (leaf_bits n bits) ≡ n
length-leaf_bits zero bits = refl
length-leaf_bits (suc n) [] = ap suc (length-leaf_bits n [])
length-leaf_bits (suc n) (b ∷ bits) = ap suc (length-leaf_bits n bits)

-- where there is a bit for each leaf, these are the bits
pub leaf_bits_all : (bits : List Bool) → leaf_bits (length bits) bits ≡ bits
leaf_bits_all [] = refl
leaf_bits_all (b ∷ bits) = ap (λ l. b ∷ l) (leaf_bits_all bits)

pub length-values_from : (values : List Bool) (pairs : List (ℕ × ℕ)) →
    length (values_from values pairs) ≡ length values + length pairs
length-values_from values [] = omega arith
length-values_from values (p ∷ pairs) =
    let v = lit_bit values p.0 && lit_bit values p.1 in
    let e = length-values_from (values ++ v ∷ []) pairs in
    let f = length-append values (v ∷ []) in omega arith

pub length-node_values : (s : Seen) (bits : List Bool) → length (node_values s bits) ≡ nodes s
length-node_values s bits =
    let e = length-values_from (false ∷ leaf_bits s.number bits) s.pairs in
    let f = length-leaf_bits s.number bits in omega arith

pub values_keep : (values : List Bool) (pairs : List (ℕ × ℕ)) (k : ℕ) → k < length values →
    slice_index_or (values_from values pairs) k false ≡ slice_index_or values k false
values_keep values [] k h = refl
values_keep values (p ∷ pairs) k h =
    let v = lit_bit values p.0 && lit_bit values p.1 in
    let f = length-append values (v ∷ []) in
    values_keep (values ++ v ∷ []) pairs k (omega arith) ∙ get_or_append_left values (v ∷ []) false k h

pub lit_keep : (values : List Bool) (pairs : List (ℕ × ℕ)) (a : ℕ) → a < 2 * length values →
    lit_bit (values_from values pairs) a ≡ lit_bit values a
lit_keep values pairs a h = rw (values_keep values pairs (a / 2) (omega arith)) refl

pub values_append : (values : List Bool) (ps qs : List (ℕ × ℕ)) →
    values_from values (ps ++ qs) ≡ values_from (values_from values ps) qs
values_append values [] qs = refl
values_append values (p ∷ ps) qs = values_append (values ++ (lit_bit values p.0 && lit_bit values p.1) ∷ []) ps qs

and_assoc : (a b c : Bool) → (a && (b && c)) ≡ ((a && b) && c)
and_assoc true b c = refl
and_assoc false b c = refl

pub and_left : (a b : Bool) → IsTrue (a && b) → IsTrue a
and_left true b h = refl
and_left false b h = h

pub and_right : (a b : Bool) → IsTrue (a && b) → IsTrue b
and_right true b h = h
and_right false b h = cc

pub and_both : (a b : Bool) → IsTrue a → IsTrue b → IsTrue (a && b)
and_both true b h k = k
and_both false b h k = h

pub pairs_append : (node : ℕ) (ps qs : List (ℕ × ℕ)) →
    are_pairs node (ps ++ qs) ≡ (are_pairs node ps && are_pairs (node + length ps) qs)
pairs_append node [] qs = let e : node ≡ node + 0 = omega arith in ap (λ n. are_pairs n qs) e
pairs_append node (p ∷ ps) qs =
    let e : (node + 1) + length ps ≡ node + suc (length ps) = omega arith in
    ap (λ b. is_pair node p && b) (pairs_append (node + 1) ps qs ∙ ap (λ n. are_pairs (node + 1) ps && are_pairs n qs) e)
    ∙ and_assoc (is_pair node p) (are_pairs (node + 1) ps) (are_pairs (node + suc (length ps)) qs)

-- what it is to be a pair of operands
pub record IsPair (node : ℕ) (p : ℕ × ℕ) : Type 0 where
  pub no_constant : 1 < p.0
  pub ordered : p.0 < p.1
  pub earlier : p.1 < 2 * node

pub pair_is : (node : ℕ) (p : ℕ × ℕ) → IsTrue (is_pair node p) → IsPair node p
pair_is node p h =
    let k = and_right (nat_lt 1 p.0) _ h in
    record {
      no_constant = ltb-true 1 p.0 (and_left (nat_lt 1 p.0) _ h);
      ordered = ltb-true p.0 p.1 (and_left (nat_lt p.0 p.1) _ k);
      earlier = ltb-true p.1 (2 * node) (and_right (nat_lt p.0 p.1) _ k);
    }

pub is_pair_of : (node : ℕ) (p : ℕ × ℕ) → IsPair node p → IsTrue (is_pair node p)
is_pair_of node p h =
    and_both (nat_lt 1 p.0) _ (lt-ltb 1 p.0 h.no_constant)
    (and_both (nat_lt p.0 p.1) _ (lt-ltb p.0 p.1 h.ordered) (lt-ltb p.1 (2 * node) h.earlier))

node_is_first : (values : List Bool) (q : ℕ × ℕ) (pairs : List (ℕ × ℕ)) → IsTrue (is_pair (length values) q) →
    slice_index_or (values_from values (q ∷ pairs)) (length values) false
    ≡ (lit_bit (values_from values (q ∷ pairs)) q.0 && lit_bit (values_from values (q ∷ pairs)) q.1)
node_is_first values q pairs s =
    let h = pair_is (length values) q s in
    let v = lit_bit values q.0 && lit_bit values q.1 in
    let f = length-append values (v ∷ []) in
    let first = values_keep (values ++ v ∷ []) pairs (length values) (omega arith) in
    let seam = get_or-append_seam values v [] false in
    let left = lit_keep values (q ∷ pairs) q.0 (omega arith) in
    let right = lit_keep values (q ∷ pairs) q.1 h.earlier in
    first ∙
    (seam ∙ sym (ap (λ b. b && lit_bit (values_from values (q ∷ pairs)) q.1) left ∙ ap (λ b. lit_bit values q.0 && b) right))

-- the value of an and-node is the and of its operands' bits
pub node_is : (values : List Bool) (pairs : List (ℕ × ℕ)) (k : ℕ) (p : ℕ × ℕ) →
    IsTrue (are_pairs (length values) pairs) → slice_get pairs k ≡ Some p →
    slice_index_or (values_from values pairs) (length values + k) false
    ≡ (lit_bit (values_from values pairs) p.0 && lit_bit (values_from values pairs) p.1)
node_is values [] k p s e = absurd cc
node_is values (q ∷ pairs) zero p s e =
    let same : q ≡ p = cc in
    let whole = values_from values (q ∷ pairs) in
    let at : length values ≡ length values + 0 = omega arith in
    subst (λ i. slice_index_or whole i false ≡ (lit_bit whole p.0 && lit_bit whole p.1)) at
    (subst (λ r. slice_index_or whole (length values) false ≡ (lit_bit whole r.0 && lit_bit whole r.1)) same
    (node_is_first values q pairs (and_left (is_pair (length values) q) _ s)))
node_is values (q ∷ pairs) (suc k) p s e =
    let v = lit_bit values q.0 && lit_bit values q.1 in
    let whole = values_from values (q ∷ pairs) in
    let f = length-append values (v ∷ []) in
    let longer : length values + 1 ≡ length (values ++ v ∷ []) = omega arith in
    let at : length (values ++ v ∷ []) + k ≡ length values + suc k = omega arith in
    subst (λ i. slice_index_or whole i false ≡ (lit_bit whole p.0 && lit_bit whole p.1)) at
    (node_is (values ++ v ∷ []) pairs k p
    (subst (λ n. IsTrue (are_pairs n pairs)) longer (and_right (is_pair (length values) q) _ s)) e)

pub lit_even : (values : List Bool) (a : ℕ) → a % 2 ≡ 0 → lit_bit values a ≡ slice_index_or values (a / 2) false
lit_even values a h = rw h refl

pub lit_odd : (values : List Bool) (a : ℕ) → a % 2 ≡ 1 → lit_bit values a ≡ not (slice_index_or values (a / 2) false)
lit_odd values a h = rw h refl

pub inverse_even : (a : ℕ) → a % 2 ≡ 0 → inverse a ≡ a + 1
inverse_even a h = rw h refl

pub inverse_odd : (a : ℕ) → a % 2 ≡ 1 → inverse a ≡ a - 1
inverse_odd a h = rw h refl

below_two : (r : ℕ) → r < 2 → (r ≡ 0) ⊎ (r ≡ 1)
below_two zero h = inl refl
below_two (suc r) h = inr (omega arith)

pub parity : (a : ℕ) → (a % 2 ≡ 0) ⊎ (a % 2 ≡ 1)
parity a = below_two (a % 2) (omega arith)

not_not : (b : Bool) → not (not b) ≡ b
not_not true = refl
not_not false = refl

pub lit_inverse : (values : List Bool) (a : ℕ) → lit_bit values (inverse a) ≡ not (lit_bit values a)
lit_inverse values a = elim (parity a) [
  | inl h ↦
      let half : (a + 1) / 2 ≡ a / 2 = omega arith in
      ap (lit_bit values) (inverse_even a h)
      ∙ (lit_odd values (a + 1) (omega arith)
      ∙ (ap (λ k. not (slice_index_or values k false)) half ∙ sym (ap not (lit_even values a h))))
  | inr h ↦
      let half : (a - 1) / 2 ≡ a / 2 = omega arith in
      ap (lit_bit values) (inverse_odd a h)
      ∙ (lit_even values (a - 1) (omega arith)
      ∙ (ap (λ k. slice_index_or values k false) half
      ∙ (sym (not_not (slice_index_or values (a / 2) false)) ∙ sym (ap not (lit_odd values a h)))))
]
