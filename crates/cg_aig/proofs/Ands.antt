-- What an `and` on a list made, and why it was refused, from what its parts did.
use Rattle.std.proofs.Common.{◌≡◌, ◌<◌, ℕ, ◌+◌, ◌*◌, ◌/◌, ap, suc, zero, Bool, false, List, [], ◌∷◌, ◌&&◌, sym, ◌∙◌, subst, refl}
use Rattle.std.proofs.Common.{arith, Some, None, IsTrue, slice_index_or}
use Rattle.std.specs.Prelude.{Err, IfOk, Ok, OnErr, Result}
use Rattle.cg_cell.specs.Domain.{Makes, Seen, Stands}
use Rattle.cg_cell.proofs.Building.{and_made}
use Rattle.cg_aig.specs.declared.fault.AigFault.{AigFault}
use Rattle.cg_aig.specs.Aig.{IsAig, are_pairs, aig_and, aig_ops, and_with, in_order, is_sound, leaf_bits, lit_bit, node_values}
use Rattle.cg_aig.specs.Aig.{pair_node, simple}
use Rattle.cg_aig.specs.AigLaws.{aig_lawful, is_lit_of, lit_is}
use Rattle.cg_aig.specs.Limits.{AndRefuses, PutRefuses}
use Rattle.cg_aig.specs.Values.{lit_even, values_keep, length-leaf_bits}

pub by_simple : (s : Seen) (a b v : ℕ) → simple a b ≡ Some v → Makes s (aig_and s a b) s v
by_simple s a b v e =
    subst (λ f. Makes s (and_with f s (in_order a b)) s v) (sym e) (record { answered = refl; left = refl })

pub by_node : (s t : Seen) (a b v : ℕ) (p : ℕ × ℕ) → simple a b ≡ None → p ≡ in_order a b →
    Makes s (pair_node s p) t v → Makes s (aig_and s a b) t v
by_node s t a b v p e f m =
    subst (λ found. Makes s (and_with found s (in_order a b)) t v) (sym e) (subst (λ q. Makes s (pair_node s q) t v) f m)

pub and_stands : (s t : Seen) (a b v : ℕ) → IsTrue (aig_ops.is_valid s a) → IsTrue (aig_ops.is_valid s b) →
    Makes s (aig_and s a b) t v → Stands aig_ops s t v (λ bits. aig_ops.bit s bits a && aig_ops.bit s bits b)
and_stands s t a b v h k m = (and_made aig_ops aig_lawful s t a b v h k m).stands

pub and_sound : (s t : Seen) (a b v : ℕ) → IsTrue (aig_ops.is_valid s a) → IsTrue (aig_ops.is_valid s b) →
    Makes s (aig_and s a b) t v → IsTrue (is_sound t)
and_sound s t a b v h k m = (lit_is t v (and_stands s t a b v h k m).valid).sound

-- after a node was put, or not for want of room or memory, the list is sound
pub put_sound : (s t : Seen) (a b : ℕ) (p : ℕ × ℕ) (r : Result ℕ AigFault) →
    IsTrue (aig_ops.is_valid s a) → IsTrue (aig_ops.is_valid s b) → simple a b ≡ None → p ≡ in_order a b → t.number ≡ s.number →
    IfOk r (λ v. Makes s (pair_node s p) t v) → OnErr r (t.pairs ≡ s.pairs) → IsTrue (is_sound t)
put_sound s t a b p (Ok v) h k e f n m u = and_sound s t a b v h k (by_node s t a b v p e f m)
put_sound s t a b p (Err fault) h k e f n m u =
    let same : are_pairs (1 + s.number) s.pairs ≡ are_pairs (1 + t.number) t.pairs = cc in
    sym same ∙ (lit_is s a h).sound

pub and_refused : (s : Seen) (a b : ℕ) (p : ℕ × ℕ) (fault : AigFault) → simple a b ≡ None → p ≡ in_order a b →
    PutRefuses s p fault → AndRefuses s a b fault
and_refused s a b p fault e f h = (e, subst (λ q. PutRefuses s q fault) f h)

leaf_bits_at : (n k : ℕ) (bits : List Bool) → k < n → slice_index_or (leaf_bits n bits) k false ≡ slice_index_or bits k false
leaf_bits_at zero k bits h = absurd (omega arith)
leaf_bits_at (suc n) zero [] h = refl
leaf_bits_at (suc n) (suc k) [] h = leaf_bits_at n k [] (omega arith)
leaf_bits_at (suc n) zero (b ∷ bits) h = refl
leaf_bits_at (suc n) (suc k) (b ∷ bits) h = leaf_bits_at n k bits (omega arith)

pub leaf_bit : (s : Seen) (k : ℕ) (bits : List Bool) → k < s.number →
    lit_bit (node_values s bits) (2 * (k + 1)) ≡ slice_index_or bits k false
leaf_bit s k bits h =
    let n = length-leaf_bits s.number bits in
    let half : (2 * (k + 1)) / 2 ≡ suc k = omega arith in
    lit_even (node_values s bits) (2 * (k + 1)) (omega arith)
    ∙ (ap (λ i. slice_index_or (node_values s bits) i false) half
    ∙ (values_keep (false ∷ leaf_bits s.number bits) s.pairs (suc k) (omega arith)
    ∙ leaf_bits_at s.number k bits h))

pub leaf_valid : (s : Seen) (k : ℕ) → IsAig s → k < s.number → IsTrue (aig_ops.is_valid s (2 * (k + 1)))
leaf_valid s k h b = is_lit_of s (2 * (k + 1)) (record { node = omega arith; sound = h.sound })
