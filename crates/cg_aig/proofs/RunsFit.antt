-- The limit of a whole building: a run that stops at the limit would have passed it.
use Rattle.std.proofs.Common.{◌≡◌, refl, ℕ, ◌+◌, ◌<◌, ◌≤◌, List, [], ◌∷◌, ◌++◌, length, Option, None, Some, ◌∙◌, ap, arith}
use Rattle.std.proofs.Common.{length-append, inl, inr}
use Rattle.std.specs.Prelude.{position}
use Rattle.std.specs.List.{AllByRecursion}
use Rattle.cg_limit.specs.declared.Limit.{Limit as Quantity}
use Rattle.cg_limit.specs.declared.TheConstants.{MOST_CLAIM_NODES}
use Rattle.cg_cell.specs.Domain.{GrowsAtEnd, Seen}
use Rattle.cg_cell.specs.Build.{AndCall, RefusesAt, Run, Somewhere, Stops}
use Rattle.cg_cell.proofs.Building.{extends_self}
use Rattle.cg_cell.proofs.RunsGrow.{Grows, IsFront, IsGrowing}
use Rattle.cg_aig.specs.Aig.{aig_and, aig_ops, and_with, in_order, pair_node_at, same_pair, simple}
use Rattle.cg_aig.specs.Limits.{AndRefuses}
use Rattle.cg_aig.specs.declared.fault.AigFault.TheVariants.{Limit}

-- leaves and and-nodes
abbrev pub size : Seen → ℕ
size s = s.number + length s.pairs

put_grows : (s : Seen) (p : ℕ × ℕ) (found : Option ℕ) → GrowsAtEnd s.pairs (pair_node_at found s p).pairs
put_grows s p (Some k) = extends_self s.pairs
put_grows s p None = record { added = p ∷ []; whole = refl }

and_grows : (s : Seen) (p : ℕ × ℕ) (found : Option ℕ) → GrowsAtEnd s.pairs (and_with found s p).pairs
and_grows s p (Some a) = extends_self s.pairs
and_grows s p None = put_grows s p (position (same_pair p) s.pairs)

-- and-inverter lists only grow
pub aig_growing : IsGrowing aig_ops
aig_growing = record {
  constant = λ s b. extends_self s.pairs;
  inverse = λ s a. extends_self s.pairs;
  both = λ s a b. and_grows s (in_order a b) (simple a b);
}

-- an `and` that is refused at the limit would have passed it
and_past : (s : Seen) (a b : ℕ) (which : Quantity) → AndRefuses s a b (Limit which) → MOST_CLAIM_NODES < s.number + length (aig_and s a b).pairs
and_past s a b which h =
    let room = h.1 in
    let one : (aig_and s a b).pairs ≡ s.pairs ++ in_order a b ∷ [] =
    ap (λ o. (and_with o s (in_order a b)).pairs) h.0 ∙ ap (λ o. (pair_node_at o s (in_order a b)).pairs) room.0 in
    omega (arith, ap length one, length-append s.pairs (in_order a b ∷ []), room.1)

-- a front part is no longer
no_longer : (old new : List (ℕ × ℕ)) → GrowsAtEnd old new → length old ≤ length new
no_longer old new e = omega (arith, ap length e.whole, length-append old e.added)

stops_at : (s t : Seen) (pairs : List (ℕ × ℕ)) (which : Quantity) (calls : List AndCall)
    → AllByRecursion (IsFront aig_ops s pairs) calls → Somewhere (RefusesAt AndRefuses (Limit which) t) calls → MOST_CLAIM_NODES < s.number + length pairs
stops_at s t pairs which [] all h = absurd h
stops_at s t pairs which (call ∷ calls) all (inl here) =
    omega (arith, and_past call.domain call.left call.right which here.allowed, no_longer (aig_and call.domain call.left call.right).pairs pairs (all.0).pairs_kept, (all.0).number)
stops_at s t pairs which (call ∷ calls) all (inr later) = stops_at s t pairs which calls all.1 later

-- a run that stops at the limit would have had more leaves and and-nodes than a list may have
pub stops_past : (s t : Seen) (r : Run) (which : Quantity) → Grows aig_ops s r → Stops AndRefuses r (Limit which) t → MOST_CLAIM_NODES < size r.domain
stops_past s t r which g h = omega (arith, stops_at s t r.domain.pairs which r.calls g.calls h.at, g.number)
