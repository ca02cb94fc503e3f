-- The laws of and-inverter lists as a domain.
use Rattle.std.specs.Prelude.{◌≡◌, ◌≢◌, ◌<◌, ◌==◌, ℕ, ◌+◌, ◌*◌, ◌/◌, Bool, true, false, not, ◌&&◌, ◌||◌, nat_lt, if◌then◌else◌}
use Rattle.std.specs.Prelude.{List, [], ◌∷◌, ◌++◌, length, slice_index_or, slice_get, position, Option, Some, None, IsTrue, refl}
use Rattle.std.proofs.Common.{◌∙◌, sym, ap, subst, arith, inl, inr, ◌⊎◌, append-nil, length-append, get_or}
use Rattle.std.proofs.Math.Bool.{and-true}
use Rattle.std.proofs.lemmas.Bool.{eqb-false, eqb-true, lt-ltb, ltb-true, ltb-false}
use Rattle.std.proofs.lemmas.Option.{slice_get-get_or}
use Rattle.std.proofs.Math.Seq.{get_or-append_seam}
use Rattle.std.proofs.lemmas.List.Quantifiers.{position-Some}
use Rattle.cg_cell.specs.Domain.{IsDomain, Keeps, Seen, Stands, after}
use Rattle.cg_aig.specs.Aig.{aig_and, aig_ops, and_with, are_pairs, constant_lit, in_order, inverse, is_pair, is_sound, leaf_bits}
use Rattle.cg_aig.specs.Aig.{lit_bit, node_values, nodes, pair_node, pair_node_at, same_pair, simple, values_from}
use Rattle.cg_aig.specs.Values.{IsPair, and_both, and_left, and_right, is_pair_of, length-leaf_bits, length-node_values, lit_even}
use Rattle.cg_aig.specs.Values.{lit_inverse, lit_keep, inverse_even, inverse_odd, node_is, pairs_append, parity, values_append}
use Rattle.cg_aig.specs.Values.{values_keep}

-- the list of s with one more and-node
abbrev pub with_pair : Seen → ℕ × ℕ → Seen
with_pair s p = record { number = s.number; pairs = s.pairs ++ p ∷ [] }

-- a literal of a node of a sound list
pub record IsLit (s : Seen) (a : ℕ) : Type 0 where
  pub node : a < 2 * nodes s
  pub sound : IsTrue (is_sound s)

pub lit_is : (s : Seen) (a : ℕ) → IsTrue (aig_ops.is_valid s a) → IsLit s a
lit_is s a h = record {
  node = ltb-true a (2 * nodes s) (and_left (nat_lt a (2 * nodes s)) _ h);
  sound = and_right (nat_lt a (2 * nodes s)) _ h;
}

pub is_lit_of : (s : Seen) (a : ℕ) → IsLit s a → IsTrue (aig_ops.is_valid s a)
is_lit_of s a h = and_both (nat_lt a (2 * nodes s)) _ (lt-ltb a (2 * nodes s) h.node) h.sound

keeps_same : (s : Seen) → Keeps aig_ops s s
keeps_same s = record {
  number = refl;
  pairs = record { added = []; whole = sym (append-nil s.pairs) };
  valid = λ a h. h;
  bits = λ a bits h. refl;
}

sound_put : (s : Seen) (p : ℕ × ℕ) → IsTrue (is_sound s) → IsPair (nodes s) p → IsTrue (is_sound (with_pair s p))
sound_put s p h k =
    pairs_append (1 + s.number) s.pairs (p ∷ [])
    ∙ and_both (are_pairs (1 + s.number) s.pairs) _ h (and_both (is_pair (nodes s) p) true (is_pair_of (nodes s) p k) refl)

values_put : (s : Seen) (p : ℕ × ℕ) (bits : List Bool) →
    node_values (with_pair s p) bits ≡ values_from (node_values s bits) (p ∷ [])
values_put s p bits = values_append (false ∷ leaf_bits s.number bits) s.pairs (p ∷ [])

bits_put : (s : Seen) (p : ℕ × ℕ) (a : ℕ) (bits : List Bool) → a < 2 * nodes s →
    lit_bit (node_values (with_pair s p) bits) a ≡ lit_bit (node_values s bits) a
bits_put s p a bits h =
    let e = length-node_values s bits in
    ap (λ v. lit_bit v a) (values_put s p bits) ∙ lit_keep (node_values s bits) (p ∷ []) a (omega arith)

nodes_put : (s : Seen) (p : ℕ × ℕ) → nodes (with_pair s p) ≡ nodes s + 1
nodes_put s p = let e = length-append s.pairs (p ∷ []) in omega arith

keeps_put : (s : Seen) (p : ℕ × ℕ) → IsTrue (is_sound s) → IsPair (nodes s) p → Keeps aig_ops s (with_pair s p)
keeps_put s p h k = record {
  number = refl;
  pairs = record { added = p ∷ []; whole = refl };
  valid = λ a v. is_lit_of (with_pair s p) a (
      let l = lit_is s a v in let e = nodes_put s p in
      record { node = omega arith; sound = sound_put s p h k });
  bits = λ a bits v. bits_put s p a bits (lit_is s a v).node;
}

-- the bit of both operands of a pair
abbrev pub pair_bit : Seen → ℕ × ℕ → List Bool → Bool
pair_bit s p bits = lit_bit (node_values s bits) p.0 && lit_bit (node_values s bits) p.1

-- the bit of the and-node at place k
pub node_bit : (s : Seen) (k : ℕ) (p : ℕ × ℕ) (bits : List Bool) → IsTrue (is_sound s) → slice_get s.pairs k ≡ Some p →
    lit_bit (node_values s bits) (2 * (1 + s.number + k)) ≡ pair_bit s p bits
node_bit s k p bits h e =
    let leaves = false ∷ leaf_bits s.number bits in
    let n : length leaves ≡ 1 + s.number = let f = length-leaf_bits s.number bits in omega arith in
    let half : (2 * (1 + s.number + k)) / 2 ≡ length leaves + k = omega arith in
    lit_even (node_values s bits) (2 * (1 + s.number + k)) (omega arith)
    ∙ (ap (λ i. slice_index_or (node_values s bits) i false) half
    ∙ node_is leaves s.pairs k p (subst (λ m. IsTrue (are_pairs m s.pairs)) (sym n) h) e)

pair_same : (p q : ℕ × ℕ) → same_pair p q ≡ true → p ≡ q
pair_same p q h =
    let e = eqb-true p.0 q.0 (and_left (p.0 == q.0) _ h) in
    let f = eqb-true p.1 q.1 (and_right (p.0 == q.0) _ h) in
    ap (λ x. (x, p.1)) e ∙ ap (λ y. (q.0, y)) f

last_pair : (pairs : List (ℕ × ℕ)) (p : ℕ × ℕ) → slice_get (pairs ++ p ∷ []) (length pairs) ≡ Some p
last_pair pairs p =
    let e = length-append pairs (p ∷ []) in
    slice_get-get_or (pairs ++ p ∷ []) (length pairs) (0, 0) (omega arith) ∙ ap Some (get_or-append_seam pairs p [] (0, 0))

put_at_stands : (s : Seen) (p : ℕ × ℕ) (found : Option ℕ) → IsTrue (is_sound s) → IsPair (nodes s) p →
    position (same_pair p) s.pairs ≡ found →
    Stands aig_ops s (after s (pair_node_at found s p)) (pair_node_at found s p).answer (pair_bit s p)
put_at_stands s p (Some k) h pair e =
    let at = position-Some (same_pair p) s.pairs k (0, 0) e in
    record {
      keeps = keeps_same s;
      valid = is_lit_of s (2 * (1 + s.number + k)) (record { node = omega arith; sound = h });
      bit = λ bits. node_bit s k p bits h
          (slice_get-get_or s.pairs k (0, 0) at.0 ∙ ap Some (sym (pair_same p (get_or s.pairs k (0, 0)) at.1)));
    }
put_at_stands s p None h pair e =
    let n = nodes_put s p in
    record {
      keeps = keeps_put s p h pair;
      valid = is_lit_of (with_pair s p) (2 * nodes s) (record { node = omega arith; sound = sound_put s p h pair });
      bit = λ bits.
          node_bit (with_pair s p) (length s.pairs) p bits (sound_put s p h pair) (last_pair s.pairs p)
          ∙ (ap (λ b. b
          && lit_bit (node_values (with_pair s p) bits) p.1) (bits_put s p p.0 bits
          (let a = pair.ordered in let b = pair.earlier in omega arith))
          ∙ ap (λ b. lit_bit (node_values s bits) p.0 && b) (bits_put s p p.1 bits pair.earlier));
    }

-- node 0 is 0
pub bit_of_zero : (s : Seen) (bits : List Bool) → lit_bit (node_values s bits) 0 ≡ false
bit_of_zero s bits = values_keep (false ∷ leaf_bits s.number bits) s.pairs 0 (omega arith)

pub bit_of_one : (s : Seen) (bits : List Bool) → lit_bit (node_values s bits) 1 ≡ true
bit_of_one s bits = ap not (values_keep (false ∷ leaf_bits s.number bits) s.pairs 0 (omega arith))

or_cases : (a b : Bool) → (a || b) ≡ true → (a ≡ true) ⊎ (b ≡ true)
or_cases true b h = inl refl
or_cases false b h = inr h

or_false_left : (a b : Bool) → (a || b) ≡ false → a ≡ false
or_false_left true b h = h
or_false_left false b h = refl

or_false_right : (a b : Bool) → (a || b) ≡ false → b ≡ false
or_false_right true b h = absurd cc
or_false_right false b h = h

and_false : (b : Bool) → (b && false) ≡ false
and_false true = refl
and_false false = refl

and_self : (b : Bool) → (b && b) ≡ b
and_self true = refl
and_self false = refl

not_and : (b : Bool) → (not b && b) ≡ false
not_and true = refl
not_and false = refl

and_swap : (a b : Bool) → (a && b) ≡ (b && a)
and_swap true true = refl
and_swap true false = refl
and_swap false true = refl
and_swap false false = refl

-- two literals in an order
abbrev by_order : Bool → ℕ → ℕ → ℕ × ℕ
by_order t a b = if t then (a, b) else (b, a)

-- `simple`, by the answers of its tests
abbrev pick : Bool → Bool → Bool → Bool → ℕ → ℕ → Option ℕ
pick zero_of same_one_a same_one_b same a b =
    if zero_of then Some 0 else if same_one_a then Some b else if same_one_b then Some a else if same then Some a else None

-- what the tests of `simple` say of the bits of the operands
record Tests (v : ℕ → Bool) (t1 t2 t3 t4 : Bool) (a b : ℕ) : Type 0 where
  zero : t1 ≡ true → (v a && v b) ≡ false
  left_one : t2 ≡ true → v a ≡ true
  right_one : t3 ≡ true → v b ≡ true
  same : t4 ≡ true → a ≡ b
  constant : v 0 ≡ false

pick_bit : (v : ℕ → Bool) (t1 t2 t3 t4 : Bool) (a b r : ℕ) → Tests v t1 t2 t3 t4 a b →
    pick t1 t2 t3 t4 a b ≡ Some r → v r ≡ (v a && v b)
pick_bit v true t2 t3 t4 a b r t e =
    let f : r ≡ 0 = cc in ap v f ∙ (t.constant ∙ sym (t.zero refl))
pick_bit v false true t3 t4 a b r t e =
    let f : r ≡ b = cc in ap v f ∙ ap (λ x. x && v b) (sym (t.left_one refl))
pick_bit v false false true t4 a b r t e =
    let f : r ≡ a = cc in ap v f ∙ (sym (and-true (v a)) ∙ ap (λ x. v a && x) (sym (t.right_one refl)))
pick_bit v false false false true a b r t e =
    let f : r ≡ a = cc in ap v f ∙ (sym (and_self (v a)) ∙ ap (λ x. v a && v x) (t.same refl))
pick_bit v false false false false a b r t e = absurd cc

pick_below : (n : ℕ) (t1 t2 t3 t4 : Bool) (a b r : ℕ) → 0 < n → a < n → b < n → pick t1 t2 t3 t4 a b ≡ Some r → r < n
pick_below n true t2 t3 t4 a b r z h k e = let f : r ≡ 0 = cc in omega arith
pick_below n false true t3 t4 a b r z h k e = let f : r ≡ b = cc in omega arith
pick_below n false false true t4 a b r z h k e = let f : r ≡ a = cc in omega arith
pick_below n false false false true a b r z h k e = let f : r ≡ a = cc in omega arith
pick_below n false false false false a b r z h k e = absurd cc

-- no test passes where a node is needed
record AllFail (t1 t2 t3 t4 : Bool) : Type 0 where
  zero : t1 ≡ false
  left_one : t2 ≡ false
  right_one : t3 ≡ false
  same : t4 ≡ false

pick_none : (t1 t2 t3 t4 : Bool) (a b : ℕ) → pick t1 t2 t3 t4 a b ≡ None → AllFail t1 t2 t3 t4
pick_none true t2 t3 t4 a b e = absurd cc
pick_none false true t3 t4 a b e = absurd cc
pick_none false false true t4 a b e = absurd cc
pick_none false false false true a b e = absurd cc
pick_none false false false false a b e = record { zero = refl; left_one = refl; right_one = refl; same = refl }

tests_of : (s : Seen) (bits : List Bool) (a b : ℕ) →
    Tests (lit_bit (node_values s bits)) (a == 0 || (b == 0 || a == inverse b)) (a == 1) (b == 1) (a == b) a b
tests_of s bits a b =
    let v : ℕ → Bool = lit_bit (node_values s bits) in
    record {
      zero = λ t. elim (or_cases (a == 0) _ t) [
        | inl h ↦ ap (λ x. v x && v b) (eqb-true a 0 h) ∙ ap (λ x. x && v b) (bit_of_zero s bits)
        | inr h ↦ elim (or_cases (b == 0) _ h) [
          | inl k ↦ ap (λ x. v a && v x) (eqb-true b 0 k) ∙ (ap (λ x. v a && x) (bit_of_zero s bits) ∙ and_false (v a))
          | inr k ↦ ap (λ x. v x && v b) (eqb-true a (inverse b) k)
              ∙ (ap (λ x. x && v b) (lit_inverse (node_values s bits) b) ∙ not_and (v b))
        ]
      ];
      left_one = λ t. ap v (eqb-true a 1 t) ∙ bit_of_one s bits;
      right_one = λ t. ap v (eqb-true b 1 t) ∙ bit_of_one s bits;
      same = λ t. eqb-true a b t;
      constant = bit_of_zero s bits;
    }

ordered_pair : (n a b : ℕ) (t : Bool) → nat_lt a b ≡ t → 1 < a → 1 < b → a ≢ b → a < 2 * n → b < 2 * n → IsPair n (by_order t a b)
ordered_pair n a b true e h k d x y = record { no_constant = h; ordered = ltb-true a b e; earlier = y }
ordered_pair n a b false e h k d x y = record { no_constant = k; ordered = let f = ltb-false a b e in omega arith; earlier = x }

order_bit : (v : ℕ → Bool) (a b : ℕ) (t : Bool) → (v (by_order t a b).0 && v (by_order t a b).1) ≡ (v a && v b)
order_bit v a b true = refl
order_bit v a b false = and_swap (v b) (v a)

-- where a node is needed, the operands in their order make a pair of it
pair_of_none : (n a b : ℕ) → simple a b ≡ None → a < 2 * n → b < 2 * n → IsPair n (in_order a b)
pair_of_none n a b e h k =
    let f = pick_none (a == 0 || (b == 0 || a == inverse b)) (a == 1) (b == 1) (a == b) a b e in
    let a0 = eqb-false a 0 (or_false_left (a == 0) _ f.zero) in
    let b0 = eqb-false b 0 (or_false_left (b == 0) _ (or_false_right (a == 0) _ f.zero)) in
    let a1 = eqb-false a 1 f.left_one in
    let b1 = eqb-false b 1 f.right_one in
    let ab = eqb-false a b f.same in
    ordered_pair n a b (nat_lt a b) refl (omega arith) (omega arith) ab h k

stands_as : (s t : Seen) (r : ℕ) (value wanted : List Bool → Bool) →
    Stands aig_ops s t r value → ((bits : List Bool) → value bits ≡ wanted bits) → Stands aig_ops s t r wanted
stands_as s t r value wanted h e = record { keeps = h.keeps; valid = h.valid; bit = λ bits. h.bit bits ∙ e bits }

and_with_stands : (s : Seen) (a b : ℕ) (found : Option ℕ) → simple a b ≡ found → IsLit s a → IsLit s b →
    Stands aig_ops s (after s (and_with found s (in_order a b))) (and_with found s (in_order a b)).answer
    (λ bits. lit_bit (node_values s bits) a && lit_bit (node_values s bits) b)
and_with_stands s a b (Some r) e h k = record {
  keeps = keeps_same s;
  valid = is_lit_of s r (record {
    node = pick_below (2 * nodes s) (a == 0 || (b == 0 || a == inverse b)) (a == 1) (b == 1) (a == b) a b r
        (omega arith) h.node k.node e;
    sound = h.sound;
  });
  bit = λ bits. pick_bit (lit_bit (node_values s bits)) (a == 0 || (b == 0 || a == inverse b)) (a == 1) (b == 1) (a == b) a b r
      (tests_of s bits a b) e;
}
and_with_stands s a b None e h k =
    stands_as s (after s (pair_node s (in_order a b))) (pair_node s (in_order a b)).answer (pair_bit s (in_order a b)) _
    (put_at_stands s (in_order a b) (position (same_pair (in_order a b)) s.pairs) h.sound (pair_of_none (nodes s) a b e h.node k.node) refl)
    (λ bits. order_bit (lit_bit (node_values s bits)) a b (nat_lt a b))

pub and_stands : (s : Seen) (a b : ℕ) → IsLit s a → IsLit s b →
    Stands aig_ops s (after s (aig_and s a b)) (aig_and s a b).answer
    (λ bits. lit_bit (node_values s bits) a && lit_bit (node_values s bits) b)
and_stands s a b h k = and_with_stands s a b (simple a b) refl h k

inverse_node : (n a : ℕ) → a < 2 * n → inverse a < 2 * n
inverse_node n a h = elim (parity a) [
  | inl e ↦ let f = inverse_even a e in omega arith
  | inr e ↦ let f = inverse_odd a e in omega arith
]

pub inverse_stands : (s : Seen) (a : ℕ) → IsLit s a →
    Stands aig_ops s s (inverse a) (λ bits. not (lit_bit (node_values s bits) a))
inverse_stands s a h = record {
  keeps = keeps_same s;
  valid = is_lit_of s (inverse a) (record { node = inverse_node (nodes s) a h.node; sound = h.sound });
  bit = λ bits. lit_inverse (node_values s bits) a;
}

pub constant_stands : (s : Seen) (b : Bool) → IsTrue (is_sound s) → Stands aig_ops s s (constant_lit b) (λ _. b)
constant_stands s true h = record {
  keeps = keeps_same s;
  valid = is_lit_of s 1 (record { node = omega arith; sound = h });
  bit = λ bits. bit_of_one s bits;
}
constant_stands s false h = record {
  keeps = keeps_same s;
  valid = is_lit_of s 0 (record { node = omega arith; sound = h });
  bit = λ bits. bit_of_zero s bits;
}

pub aig_lawful : IsDomain aig_ops
aig_lawful = record {
  sound = λ s a h. (lit_is s a h).sound;
  constant_stands = constant_stands;
  not_stands = λ s a h. inverse_stands s a (lit_is s a h);
  and_stands = λ s a b h k. and_stands s a b (lit_is s a h) (lit_is s b k);
}
