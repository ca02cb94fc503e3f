-- A load that is a cause is that of a file which the mode loads.
use Rattle.std.proofs.Common.{◌≡◌, ◌⊎◌, inl, inr, ℕ, IsTrue, List, [], ◌∷◌, Option, None, Some, Result, Ok, Err, subst}
use Rattle.cg_shelf.specs.declared.faults.LoadFault.TheVariants as loads
use Rattle.cg_run.specs.declared.refusal.Refusal.{Refusal}
use Rattle.cg_run.specs.declared.refusal.Refusal.TheVariants as refusals
use Rattle.cg_run.specs.declared.refusal.Trouble.{Trouble}
use Rattle.cg_run.specs.declared.refusal.Trouble.TheVariants as troubles
use Rattle.cg_run.specs.declared.role.Role.{Role}
use Rattle.cg_run.specs.Roles.{is_among, is_role}
use Rattle.cg_run.specs.Verdict.{Given, Loaded, brought, reached, refusal_in, stopped, taken, troubled, ◌>>=◌}
use Rattle.cg_run.proofs.RoleLaws.{is_its_role}
use Rattle.cg_run.proofs.WriteHalf.{or_left, or_right}

no_load : {T : Type 0} (r : Result T Trouble) (role : Role) → troubled r ≡ Err (refusals.Load role) → ⊥
no_load (Ok x) role h = cc
no_load (Err (troubles.Content content)) role h = cc
no_load (Err (troubles.Limit limit)) role h = cc
no_load (Err troubles.NoMemory) role h = cc

bind_err : {A B : Type 0} (v : Result A Refusal) (next : A → Result B Refusal) (refusal : Refusal) → (v >>= next) ≡ Err refusal → (v ≡ Err refusal) ⊎ ((x : A) × (next x ≡ Err refusal))
bind_err (Ok x) next refusal h = inr (x, h)
bind_err (Err other) next refusal h = inl (let e : other ≡ refusal = cc in cc)

brought_named : (first : Role) (given : Loaded) (role : Role) → brought first given ≡ Err (refusals.Load role) → first ≡ role
brought_named first None role h = cc
brought_named first (Some (Ok bytes)) role h = cc
brought_named first (Some (Err loads.Failed)) role h = cc
brought_named first (Some (Err loads.TooLong)) role h = cc
brought_named first (Some (Err loads.NoMemory)) role h = cc

first_named : (first : Role) (rest : List Role) (role : Role) → first ≡ role → IsTrue (is_among role (first ∷ rest))
first_named first rest role same = let P : Role → Type 0 = λ r. IsTrue (is_among r (first ∷ rest)) in subst P same (or_left (is_role first first) (is_among first rest) (is_its_role first))

named_case : {M : Type 0} (takes : M → Role → List ℕ → Result M Trouble) (state : M) (first : Role) (given : Loaded) (role : Role)
    → (brought first given ≡ Err (refusals.Load role)) ⊎ ((bytes : List ℕ) × (troubled (takes state first bytes) ≡ Err (refusals.Load role))) → first ≡ role
named_case takes state first given role (inl h) = brought_named first given role h
named_case takes state first given role (inr h) = absurd (no_load (takes state first h.0) role h.1)

load_case : {M : Type 0} (takes : M → Role → List ℕ → Result M Trouble) (stops : M → Option Trouble) (state : M) (first : Role) (rest : List Role) (given : Given) (role : Role)
    → (taken takes state first (given first) ≡ Err (refusals.Load role)) ⊎ ((next : M) × (reached takes stops next rest given ≡ Err (refusals.Load role)))
    → ((next : M) → reached takes stops next rest given ≡ Err (refusals.Load role) → IsTrue (is_among role rest))
    → IsTrue (is_among role (first ∷ rest))
load_case takes stops state first rest given role (inl h) step = first_named first rest role (named_case takes state first (given first) role (bind_err (brought first (given first)) (λ bytes. troubled (takes state first bytes)) (refusals.Load role) h))
load_case takes stops state first rest given role (inr h) step = or_right (is_role first role) (is_among role rest) (step h.0 h.1)

stopped_named : {M : Type 0} (stops : Option Trouble) (state : M) (role : Role) → stopped stops state ≡ Err (refusals.Load role) → ⊥
stopped_named None state role h = cc
stopped_named (Some (troubles.Content content)) state role h = cc
stopped_named (Some (troubles.Limit limit)) state role h = cc
stopped_named (Some troubles.NoMemory) state role h = cc

reached_named : {M : Type 0} (takes : M → Role → List ℕ → Result M Trouble) (stops : M → Option Trouble) (state : M) (files : List Role) (given : Given) (role : Role)
    → reached takes stops state files given ≡ Err (refusals.Load role) → IsTrue (is_among role files)
reached_named takes stops state [] given role h = absurd (stopped_named (stops state) state role h)
reached_named takes stops state (first ∷ rest) given role h =
    load_case takes stops state first rest given role (bind_err (taken takes state first (given first)) (λ next. reached takes stops next rest given) (refusals.Load role) h)
    (λ next. reached_named takes stops next rest given role)

pub refused_err : {T : Type 0} (v : Result T Refusal) (refusal : Refusal) → refusal_in v ≡ Some refusal → v ≡ Err refusal
refused_err (Ok x) refusal h = cc
refused_err (Err other) refusal h = cc

pub load_named : {M : Type 0} (takes : M → Role → List ℕ → Result M Trouble) (stops : M → Option Trouble) (state : M) (files : List Role) (given : Given) (role : Role)
    → refusal_in (reached takes stops state files given) ≡ Some (refusals.Load role) → IsTrue (is_among role files)
load_named takes stops state files given role h = reached_named takes stops state files given role (refused_err (reached takes stops state files given) (refusals.Load role) h)
