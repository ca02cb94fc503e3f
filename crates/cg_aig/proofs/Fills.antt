-- The loops that write the values of nodes into a buffer: what one more step adds.
use Rattle.std.proofs.Common.{◌≡◌, ◌<◌, ◌≤◌, ℕ, ◌+◌, ◌*◌, ◌/◌, suc, zero, Bool, false, List, [], ◌∷◌, ◌++◌, ◌&&◌, sym, ◌∙◌, subst}
use Rattle.std.proofs.Common.{refl, arith, ap, Some, IsTrue, length, take, set, get_or}
use Rattle.std.specs.Prelude.{slice_get}
use Rattle.std.proofs.lemmas.List.{get_or-take, take_more, take_more_set}
use Rattle.std.proofs.lemmas.Option.{get_or_from_slice_get, slice_get-get_or, slice_get_within}
use Rattle.cg_cell.specs.Domain.{Seen}
use Rattle.cg_aig.specs.Aig.{aig_ops, are_pairs, is_pair, leaf_bits, lit_bit, node_values, nodes, values_from}
use Rattle.cg_aig.specs.AigLaws.{lit_is}
use Rattle.cg_aig.specs.Values.{IsPair, and_left, and_right, leaf_bits_all, pair_is, values_append}

-- each pair of a sound list is one of operands of its node
pub pair_at : (node : ℕ) (pairs : List (ℕ × ℕ)) (k : ℕ) (p : ℕ × ℕ) → IsTrue (are_pairs node pairs) →
    slice_get pairs k ≡ Some p → IsPair (node + k) p
pair_at node [] k p h e = absurd cc
pair_at node (q ∷ pairs) zero p h e =
    let same : q ≡ p = cc in
    let at : node ≡ node + 0 = omega arith in
    subst (λ n. IsPair n p) at (subst (IsPair node) same (pair_is node q (and_left (is_pair node q) _ h)))
pair_at node (q ∷ pairs) (suc k) p h e =
    let at : node + 1 + k ≡ node + suc k = omega arith in
    subst (λ n. IsPair n p) at (pair_at (node + 1) pairs k p (and_right (is_pair node q) _ h) e)

-- the literals of a pair are of nodes whose values are there
pub record IsWithin (nodes : ℕ) (p : ℕ × ℕ) : Type 0 where
  pub left : p.0 < 2 * nodes
  pub right : p.1 < 2 * nodes

pub pair_within : (first nodes : ℕ) (pairs : List (ℕ × ℕ)) (k : ℕ) → IsTrue (are_pairs first pairs) → k < length pairs →
    first + length pairs ≤ nodes → IsWithin nodes (get_or pairs k (0, 0))
pair_within first nodes pairs k sound h room =
    let pair = pair_at first pairs k (get_or pairs k (0, 0)) sound (slice_get-get_or pairs k (0, 0) h) in
    let a = pair.ordered in let b = pair.earlier in
    record { left = omega arith; right = omega arith }

-- a literal of the first nodes has its bit from their values alone
pub bit_of_first : (n : ℕ) (values : List Bool) (a : ℕ) → a < 2 * n → lit_bit (take n values) a ≡ lit_bit values a
bit_of_first n values a h = let half : a / 2 < n = omega arith in rw (get_or-take n values (a / 2) false half) refl

-- one more leaf
pub leaf_more : (bits buffer : List Bool) (k : ℕ) → k < length bits → 1 + k < length buffer →
    take (1 + k) buffer ≡ false ∷ take k bits →
    take (1 + (k + 1)) (set buffer (1 + k) (get_or bits k false)) ≡ false ∷ take (k + 1) bits
leaf_more bits buffer k h room e =
    let at : 1 + (k + 1) ≡ (1 + k) + 1 = omega arith in
    ap (λ n. take n (set buffer (1 + k) (get_or bits k false))) at
    ∙ (take_more_set buffer (1 + k) (get_or bits k false) room
    ∙ (ap (λ l. l ++ get_or bits k false ∷ []) e ∙ sym (ap (λ l. false ∷ l) (take_more bits k false h))))

-- one more and-node
pub and_more : (first : ℕ) (start buffer : List Bool) (pairs : List (ℕ × ℕ)) (k : ℕ) (p : ℕ × ℕ) →
    IsTrue (are_pairs first pairs) → slice_get pairs k ≡ Some p → first + k < length buffer →
    take (first + k) buffer ≡ values_from start (take k pairs) →
    take (first + (k + 1)) (set buffer (first + k) (lit_bit buffer p.0 && lit_bit buffer p.1)) ≡ values_from start (take (k + 1) pairs)
and_more first start buffer pairs k p sound e room so_far =
    let pair = pair_at first pairs k p sound e in
    let v = lit_bit buffer p.0 && lit_bit buffer p.1 in
    let at : first + (k + 1) ≡ (first + k) + 1 = omega arith in
    let left = bit_of_first (first + k) buffer p.0 (let h = pair.ordered in let i = pair.earlier in omega arith) in
    let right = bit_of_first (first + k) buffer p.1 pair.earlier in
    let more : take (k + 1) pairs ≡ take k pairs ++ p ∷ [] =
    take_more pairs k (0, 0) (slice_get_within pairs k p e) ∙ ap (λ q. take k pairs ++ q ∷ []) (get_or_from_slice_get pairs k p (0, 0) e) in
    let values = values_from start (take k pairs) in
    ap (λ n. take n (set buffer (first + k) v)) at
    ∙ (take_more_set buffer (first + k) v room
    ∙ (ap (λ b. take (first + k) buffer ++ b ∷ []) (sym (ap (λ b. b && lit_bit (take (first + k) buffer) p.1) left ∙ ap (λ b. lit_bit buffer p.0 && b) right))
    ∙ (ap (λ l. l ++ (lit_bit l p.0 && lit_bit l p.1) ∷ []) so_far
    ∙ sym (ap (λ l. values_from start l) more ∙ values_append start (take k pairs) (p ∷ [])))))

-- the constant
pub constant_first : (buffer : List Bool) → 0 < length buffer → take 1 (set buffer 0 false) ≡ false ∷ []
constant_first buffer room = take_more_set buffer 0 false room

-- the bit that is read from the filled buffer
pub value_is : (s : Seen) (bits buffer : List Bool) (pairs : List (ℕ × ℕ)) (lit number : ℕ) (r : Bool) →
    IsTrue (aig_ops.is_valid s lit) → length bits ≡ s.number → pairs ≡ s.pairs →
    take (1 + length bits + length pairs) buffer ≡ values_from (false ∷ bits) pairs →
    number ≡ lit → r ≡ lit_bit buffer number → r ≡ lit_bit (node_values s bits) lit
value_is s bits buffer pairs lit number r valid long same filled e f =
    let node = (lit_is s lit valid).node in
    let n : 1 + length bits + length pairs ≡ nodes s = ap (λ l. 1 + length bits + length l) same ∙ ap (λ m. 1 + m + length s.pairs) long in
    let leaves : false ∷ bits ≡ false ∷ leaf_bits s.number bits =
    ap (λ l. false ∷ l) (sym (leaf_bits_all bits) ∙ ap (λ m. leaf_bits m bits) long) in
    let values : values_from (false ∷ bits) pairs ≡ node_values s bits =
    ap (λ l. values_from l pairs) leaves ∙ ap (λ l. values_from (false ∷ leaf_bits s.number bits) l) same in
    f ∙ (ap (lit_bit buffer) e
    ∙ (sym (bit_of_first (1 + length bits + length pairs) buffer lit (omega arith))
    ∙ ap (λ l. lit_bit l lit) (filled ∙ values)))
