-- A list that is written place by place, up from the first.
use Rattle.std.proofs.Common.{◌≡◌, ℕ, zero, suc, false, replicate, ◌+◌, ◌<◌, ◌≤◌, inl, inr, Bool, List, length, slice_get, slice_set, Some, refl, sym, ◌∙◌, ap}
use Rattle.std.proofs.Common.{arith}
use Rattle.std.proofs.lemmas.List.{length-set}
use Rattle.std.proofs.lemmas.Option.{slice_get_within}
use Rattle.cg_net.proofs.TableLemmas.{same_or_not, slice_get-set_other, slice_get-set_same}
use Rattle.cg_netlist.proofs.Values.{same_places}
use Rattle.cg_edge.specs.inner.Stepped.{IsWritten}
use Rattle.cg_edge.proofs.Bits.{below_or}

pub written_none : (old wanted : List Bool) → length old ≡ length wanted → IsWritten 0 old wanted old
written_none old wanted long = record { long = long; done = λ k below. absurd (omega arith); left = λ k past. refl }

pub written_more : (i : ℕ) (old wanted new : List Bool) (b : Bool) → IsWritten i old wanted new → slice_get wanted i ≡ Some b → IsWritten (i + 1) old wanted (slice_set new i b)
written_more i old wanted new b written is = record {
  long = length-set new i b ∙ written.long;
  done = λ k below. elim (same_or_not k i) [
    | inl e ↦ ap (slice_get (slice_set new i b)) e ∙ (slice_get-set_same new i b (let low = slice_get_within wanted i b is in omega (arith, written.long)) ∙ (sym is ∙ ap (slice_get wanted) (sym e)))
    | inr e ↦ slice_get-set_other new i k b e ∙ written.done k (omega (arith, e))
  ];
  left = λ k past. slice_get-set_other new i k b (λ e. omega (arith, e)) ∙ written.left k (omega arith);
}

pub written_all : (i : ℕ) (old wanted new : List Bool) → IsWritten i old wanted new → length wanted ≤ i → new ≡ wanted
written_all i old wanted new written all = same_places new wanted written.long (λ k below. written.done k (omega (arith, written.long)))

-- a place that has what is wanted there already
pub written_same : (i : ℕ) (old wanted new : List Bool) → IsWritten i old wanted new → slice_get wanted i ≡ slice_get new i → IsWritten (i + 1) old wanted new
written_same i old wanted new written is = record {
  long = written.long;
  done = λ k below. elim (same_or_not k i) [
    | inl e ↦ ap (slice_get new) e ∙ (sym is ∙ ap (slice_get wanted) (sym e))
    | inr e ↦ written.done k (omega (arith, e))
  ];
  left = λ k past. written.left k (omega arith);
}

-- places that have what is wanted there already, one behind the other
pub written_past : (i n : ℕ) (old wanted new : List Bool) → i ≤ n → IsWritten i old wanted new → ((k : ℕ) → i ≤ k → k < n → slice_get wanted k ≡ slice_get old k) → IsWritten n old wanted new
written_past i n old wanted new further written is = record {
  long = written.long;
  done = λ k below. elim (below_or i k) [
    | inl past ↦ written.left k past ∙ sym (is k past below)
    | inr early ↦ written.done k early
  ];
  left = λ k past. written.left k (omega (arith, past, further));
}

pub replicate_at : (n k : ℕ) → k < n → slice_get (replicate n false) k ≡ Some false
replicate_at zero k below = absurd (omega arith)
replicate_at (suc n) zero below = refl
replicate_at (suc n) (suc k) below = replicate_at n k (omega (arith, below))
