-- Runs made one after another, and faults on their way.
use Rattle.std.proofs.Common.{◌≡◌, ℕ, ◌<◌, ◌≤◌, Bool, false, List, [], ◌∷◌, map, slice_index_or, Result, Ok, Err, IfErr, IfOk, IsOk, OnOk, refl, sym}
use Rattle.std.proofs.Common.{ap, subst, arith, inl, inr, length}
use Rattle.std.specs.List.{All}
use Rattle.std.proofs.lemmas.Bool.{both_ways}
use Rattle.std.proofs.lemmas.List.Elements.{All-head, All-tail}
use Rattle.cg_cell.specs.Build.{AndCall, Evaluates, RefusesAt, Run, Somewhere, Stops, chain}
use Rattle.cg_cell.specs.Domain.{AreValid, Seen}
use Rattle.cg_cell.proofs.Building.{builds_then, keeps_then}
use Rattle.cg_cell.proofs.Evals.{valid_at}
use Rattle.cg_cell.proofs.RunsGrow.{Grows}
use Rattle.cg_limit.specs.declared.Limit.{Limit as Quantity}
use Rattle.cg_limit.specs.declared.Limit.TheVariants.{ClaimNodes}
use Rattle.cg_aig.specs.Aig.{aig_ops}
use Rattle.cg_aig.specs.Limits.{AndRefuses}
use Rattle.cg_aig.specs.declared.fault.AigFault.{AigFault}
use Rattle.cg_aig.specs.declared.fault.AigFault.TheVariants.{Limit, NoMemory}
use Rattle.cg_aig.proofs.RunsFit.{stops_past}
use Rattle.cg_claim.specs.Build.{size}
use Rattle.cg_claim.proofs.WholeLists.{run_fits}
use Rattle.cg_unroll.specs.Building.{Built, MayFail}

which_limit : (which : Quantity) (t : Seen) (calls : List AndCall) → Somewhere (RefusesAt AndRefuses (Limit which) t) calls → which ≡ ClaimNodes
which_limit which t [] h = absurd h
which_limit which t (call ∷ calls) (inl here) = here.allowed.1.2
which_limit which t (call ∷ calls) (inr later) = which_limit which t calls later

-- a run that stops may fail on the way to its list
pub stops_fails : (s t : Seen) (r : Run) (fault : AigFault) → Grows aig_ops s r → Stops AndRefuses r fault t → MayFail r.domain fault
stops_fails s t r NoMemory g h = tt
stops_fails s t r (Limit which) g h = (which_limit which t r.calls h.at, stops_past s t r which g h)

-- a longer list is passed too
pub fails_longer : (a b : Seen) (fault : AigFault) → size a ≤ size b → MayFail a fault → MayFail b fault
fails_longer a b NoMemory le h = tt
fails_longer a b (Limit which) le h = (h.0, omega (arith, h.1, le))

pub fails_first : (r : Run) (next : ℕ → Seen → Run) (fault : AigFault) → Grows aig_ops r.domain (next r.answer r.domain) → MayFail r.domain fault → MayFail (chain r next).domain fault
fails_first r next fault g h = fails_longer r.domain (next r.answer r.domain).domain fault (run_fits r.domain (next r.answer r.domain) g) h

pub fails_then : (s t : Seen) (r : Run) (a : ℕ) (next : ℕ → Seen → Run) (fault : AigFault) → Built s t a r → MayFail (next a t).domain fault → MayFail (chain r next).domain fault
fails_then s t r a next fault built h =
    subst (λ x. MayFail (next x r.domain).domain fault) (sym built.builds.answered)
    (subst (λ d. MayFail (next a d).domain fault) (sym built.builds.left) h)

pub built_then : (s t u : Seen) (r : Run) (a b : ℕ) (next : ℕ → Seen → Run) → Built s t a r → Built t u b (next a t) → Built s u b (chain r next)
built_then s t u r a b next one two = record { builds = builds_then r next t u a b one.builds two.builds; keeps = keeps_then aig_ops s t u one.keeps two.keeps; valid = two.valid }

-- a list that was evaluated
pub built_of : (s t : Seen) (v : ℕ) (r : Run) (value : List Bool → Bool) → Evaluates aig_ops s t v r value → Built s t v r
built_of s t v r value e = record { builds = e.builds; keeps = e.stands.keeps; valid = e.stands.valid }

pub if_err : {T E : Type 0} (P Q : E → Type 0) (r : Result T E) → ((e : E) → P e → Q e) → IfErr r P → IfErr r Q
if_err P Q (Ok x) f h = tt
if_err P Q (Err e) f h = f e h

pub on_ok : {T E P : Type 0} (r : Result T E) → IsOk r → OnOk r P → P
on_ok (Ok x) is h = h
on_ok (Err e) is h = absurd (both_ways false refl is)

pub if_ok : {T E : Type 0} (P Q : T → Type 0) (r : Result T E) → ((x : T) → P x → Q x) → IfOk r P → IfOk r Q
if_ok P Q (Ok x) f h = f x h
if_ok P Q (Err e) f h = tt

pub on_if : {T E P : Type 0} (Q : T → Type 0) (r : Result T E) → ((x : T) → Q x → P) → IfOk r Q → OnOk r P
on_if Q (Ok x) f h = f x h
on_if Q (Err e) f h = tt

pub map_same_list : (xs : List ℕ) → map (λ (a : ℕ). a) xs ≡ xs
map_same_list [] = refl
map_same_list (x ∷ xs) = ap (λ l. x ∷ l) (map_same_list xs)

pub valid_read : (s : Seen) (literals nets : List ℕ) → AreValid aig_ops s literals → All (λ net. net < length literals) nets → AreValid aig_ops s (map (λ net. slice_index_or literals net 0) nets)
valid_read s literals [] valid within = tt
valid_read s literals (n ∷ nets) valid within = (valid_at aig_ops s literals n valid (All-head (λ net. net < length literals) n nets within), valid_read s literals nets valid (All-tail (λ net. net < length literals) n nets within))
