-- Where no call fails, a run ends as what is held comes to.
use Rattle.std.proofs.Common.{◌≡◌, ◌≤◌, ◌<◌, ◌⊎◌, inl, inr, ℕ, true, false, IsTrue, List, [], ◌∷◌, length, nat_lt, Option, None}
use Rattle.std.proofs.Common.{Some, Result, Ok, Err, refl, sym, ◌∙◌, ap, subst}
use Rattle.std.specs.Prelude.{IfSome, IsOkAnd, IsSomeAnd}
use Rattle.std.proofs.lemmas.Bool.{le-ltb, lt-ltb}
use Rattle.cg_shelf.specs.World.{World}
use Rattle.cg_shelf.specs.declared.faults.LoadFault.TheVariants as loads
use Rattle.cg_limit.specs.declared.TheConstants.{MOST_FILE_BYTES}
use Rattle.cg_run.specs.declared.writing.Finish.{Finish}
use Rattle.cg_run.specs.declared.writing.Finish.TheVariants as finishes
use Rattle.cg_run.specs.declared.refusal.Owner.{Owner}
use Rattle.cg_run.specs.declared.refusal.Owner.TheVariants as owners
use Rattle.cg_run.specs.declared.writing.Output.{Output}
use Rattle.cg_run.specs.declared.refusal.Refusal.{Refusal}
use Rattle.cg_run.specs.declared.refusal.Refusal.TheVariants as refusals
use Rattle.cg_run.specs.declared.refusal.Step.TheVariants as steps
use Rattle.cg_run.specs.declared.role.Role.{Role}
use Rattle.cg_run.specs.declared.status.Status.{Status}
use Rattle.cg_run.specs.Refusal.{owner_status, status_of, step_of}
use Rattle.cg_run.specs.Status.{finish_status}
use Rattle.cg_run.specs.Reads.{Agrees}
use Rattle.cg_run.specs.Run.{Cause, CauseAt, Runs}
use Rattle.cg_run.specs.declared.refusal.Trouble.{Trouble}
use Rattle.cg_run.specs.Verdict.{ComesTo, Given, Loaded, Task, reached, refusal_in, taken, task_of, ◌>>=◌}
use Rattle.cg_run.specs.Promise.{EndsAs, EndsBy, UnlessFails, held_files, loaded_of}
use Rattle.cg_run.proofs.Closed.{EndsSo, ends_so}

-- a file was not loaded, or its load failed or found no memory
abbrev IsLost : Loaded → Type 0
IsLost gave = (gave ≡ None) ⊎ ((gave ≡ Some (Err loads.Failed)) ⊎ (gave ≡ Some (Err loads.NoMemory)))

within : (n : ℕ) → n ≤ MOST_FILE_BYTES → nat_lt MOST_FILE_BYTES n ≡ false
within n h = le-ltb MOST_FILE_BYTES n h

beyond : (n : ℕ) → MOST_FILE_BYTES < n → nat_lt MOST_FILE_BYTES n ≡ true
beyond n h = lt-ltb MOST_FILE_BYTES n h

found : (bytes : List ℕ) → length bytes ≤ MOST_FILE_BYTES → loaded_of (Some bytes) ≡ Some (Ok bytes)
found bytes h = rw (within (length bytes) h) refl

long : (held : Option (List ℕ)) → IsSomeAnd held (λ bytes. MOST_FILE_BYTES < length bytes) → loaded_of held ≡ Some (Err loads.TooLong)
long None h = absurd h
long (Some bytes) h = rw (beyond (length bytes) h) refl

gave_held : (held : Option (List ℕ)) (gave : Loaded) → Agrees held gave → (gave ≡ loaded_of held) ⊎ IsLost gave
gave_held held None agrees = inr (inl refl)
gave_held held (Some (Ok bytes)) agrees = inl (sym (ap loaded_of agrees.0 ∙ found bytes agrees.1))
gave_held held (Some (Err loads.Failed)) agrees = inr (inr (inl refl))
gave_held held (Some (Err loads.TooLong)) agrees = inl (sym (long held agrees))
gave_held held (Some (Err loads.NoMemory)) agrees = inr (inr (inr refl))

-- a load that failed, or want of memory, ends the reading
abbrev IsFaulty : Option Refusal → Type 0
IsFaulty refused = ((role : Role) × (refused ≡ Some (refusals.Load role))) ⊎ (refused ≡ Some (refusals.NoMemory steps.Reading))

lost_faulty : {M : Type 0} (takes : M → Role → List ℕ → Result M Trouble) (stops : M → Option Trouble) (state : M) (role : Role) (rest : List Role) (given : Given)
    → IsLost (given role) → IsFaulty (refusal_in (reached takes stops state (role ∷ rest) given))
lost_faulty takes stops state role rest given (inl lost) = inr (rw lost refl)
lost_faulty takes stops state role rest given (inr (inl lost)) = inl (role, rw lost refl)
lost_faulty takes stops state role rest given (inr (inr lost)) = inr (rw lost refl)

next_same : {M : Type 0} (takes : M → Role → List ℕ → Result M Trouble) (stops : M → Option Trouble) (next : Result M Refusal) (rest : List Role) (given held : Given)
    → ((state : M) → (reached takes stops state rest given ≡ reached takes stops state rest held) ⊎ IsFaulty (refusal_in (reached takes stops state rest given)))
    → ((next >>= λ state. reached takes stops state rest given) ≡ (next >>= λ state. reached takes stops state rest held)) ⊎ IsFaulty (refusal_in (next >>= λ state. reached takes stops state rest given))
next_same takes stops (Ok state) rest given held step = step state
next_same takes stops (Err refusal) rest given held step = inl refl

first_case : {M : Type 0} (takes : M → Role → List ℕ → Result M Trouble) (stops : M → Option Trouble) (state : M) (role : Role) (rest : List Role) (given held : Given)
    → (given role ≡ held role) ⊎ IsLost (given role)
    → ((state : M) → (reached takes stops state rest given ≡ reached takes stops state rest held) ⊎ IsFaulty (refusal_in (reached takes stops state rest given)))
    → (reached takes stops state (role ∷ rest) given ≡ reached takes stops state (role ∷ rest) held) ⊎ IsFaulty (refusal_in (reached takes stops state (role ∷ rest) given))
first_case takes stops state role rest given held (inl same) step =
    let P : Loaded → Type 0 = λ h. (reached takes stops state (role ∷ rest) given ≡ (taken takes state role h >>= λ next. reached takes stops next rest held)) ⊎ IsFaulty (refusal_in (reached takes stops state (role ∷ rest) given)) in
    subst P same (next_same takes stops (taken takes state role (given role)) rest given held step)
first_case takes stops state role rest given held (inr lost) step = inr (lost_faulty takes stops state role rest given lost)

reached_held : {M : Type 0} (takes : M → Role → List ℕ → Result M Trouble) (stops : M → Option Trouble) (state : M) (files : List Role) (given held : Given)
    → ((role : Role) → (given role ≡ held role) ⊎ IsLost (given role))
    → (reached takes stops state files given ≡ reached takes stops state files held) ⊎ IsFaulty (refusal_in (reached takes stops state files given))
reached_held takes stops state [] given held each = inl refl
reached_held takes stops state (role ∷ rest) given held each = first_case takes stops state role rest given held (each role) (λ next. reached_held takes stops next rest given held each)

-- a run ends as its files come to, unless a call failed or there was no memory
done_so : (P : Status → Type 0) (finish : Finish) (result : Status) → result ≡ finish_status finish → P result → UnlessFails P result
done_so P finishes.Done result is h = let Q : Status → Type 0 = λ s. P s → UnlessFails P s in subst Q (sym is) (λ k. k) h
done_so P finishes.Rejected result is h = let Q : Status → Type 0 = λ s. P s → UnlessFails P s in subst Q (sym is) (λ k. k) h

owner_ends : (P : Status → Type 0) (owner : Owner) → P (owner_status owner) → UnlessFails P (owner_status owner)
owner_ends P owners.Netlist h = h
owner_ends P owners.Library h = h
owner_ends P owners.Stimulus h = h

finish_ends : (refused : Option Refusal) (comes : Output → Type 0) (out : Option Output) (finish : Finish) (result : Status) → IfSome out (λ o. (refused ≡ None) × comes o) → IsSomeAnd out (λ o. o.finish ≡ finish) → result ≡ finish_status finish → UnlessFails (EndsBy refused comes) result
finish_ends refused comes (Some output) finish result came ends is =
    let Q : Option Refusal → Type 0 = λ r. EndsBy r comes result in
    done_so (EndsBy refused comes) finish result is (subst Q (sym came.0) (output, (came.1, is ∙ ap finish_status (sym ends))))
finish_ends refused comes None finish result came ends is = absurd ends

refused_so : (refused : Option Refusal) (comes : Output → Type 0) (refusal : Refusal) → refused ≡ Some refusal → EndsBy refused comes (status_of refusal)
refused_so refused comes refusal is = let Q : Option Refusal → Type 0 = λ r. EndsBy r comes (status_of refusal) in subst Q (sym is) refl

refusal_ends : (refused : Option Refusal) (comes : Output → Type 0) (out : Option Output) (refusal : Refusal) → CauseAt refused out refusal (step_of refusal) → UnlessFails (EndsBy refused comes) (status_of refusal)
refusal_ends refused comes out (refusals.Content content) cause = owner_ends (EndsBy refused comes) content.owner (refused_so refused comes (refusals.Content content) cause)
refusal_ends refused comes out (refusals.Limit limit) cause = refused_so refused comes (refusals.Limit limit) cause
refusal_ends refused comes out (refusals.Load role) cause = tt
refusal_ends refused comes out (refusals.Store role) cause = tt
refusal_ends refused comes out refusals.Say cause = tt
refusal_ends refused comes out (refusals.NoMemory step) cause = tt

outcome_ends : (refused : Option Refusal) (comes : Output → Type 0) (out : Option Output) (outcome : Result Finish Refusal) (result : Status) → IfSome out (λ o. (refused ≡ None) × comes o) → Cause refused out outcome → EndsSo outcome result → UnlessFails (EndsBy refused comes) result
outcome_ends refused comes out (Ok finish) result came cause ends = finish_ends refused comes out finish result came cause ends
outcome_ends refused comes out (Err refusal) result came cause (inl ends) = rw ends (refusal_ends refused comes out refusal cause)
outcome_ends refused comes out (Err refusal) result came cause (inr ends) = rw ends tt

-- a failed load or want of memory while reading ends the run so
faulty_refusal : (refused : Option Refusal) (out : Option Output) (refusal : Refusal) (P : Status → Type 0) → IsFaulty refused → CauseAt refused out refusal (step_of refusal) → UnlessFails P (status_of refusal)
faulty_refusal refused out (refusals.Content content) P (inl faulty) cause = cc
faulty_refusal refused out (refusals.Content content) P (inr faulty) cause = cc
faulty_refusal refused out (refusals.Limit limit) P (inl faulty) cause = cc
faulty_refusal refused out (refusals.Limit limit) P (inr faulty) cause = cc
faulty_refusal refused out (refusals.Load role) P faulty cause = tt
faulty_refusal refused out (refusals.Store role) P faulty cause = tt
faulty_refusal refused out refusals.Say P faulty cause = tt
faulty_refusal refused out (refusals.NoMemory step) P faulty cause = tt

faulty_ok : (refused : Option Refusal) (comes P : Output → Type 0) (out : Option Output) → IsFaulty refused → IfSome out (λ o. (refused ≡ None) × comes o) → IsSomeAnd out P → ⊥
faulty_ok refused comes P (Some output) (inl faulty) came h = let e : None ≡ Some (refusals.Load faulty.0) = sym came.0 ∙ faulty.1 in cc
faulty_ok refused comes P (Some output) (inr faulty) came h = let e : None ≡ Some (refusals.NoMemory steps.Reading) = sym came.0 ∙ faulty in cc
faulty_ok refused comes P None faulty came h = h

faulty_ends : (refused : Option Refusal) (comes : Output → Type 0) (out : Option Output) (outcome : Result Finish Refusal) (result : Status) (P : Status → Type 0) → IsFaulty refused → IfSome out (λ o. (refused ≡ None) × comes o) → Cause refused out outcome → EndsSo outcome result → UnlessFails P result
faulty_ends refused comes out (Ok finish) result P faulty came cause ends = absurd (faulty_ok refused comes (λ o. o.finish ≡ finish) out faulty came cause)
faulty_ends refused comes out (Err refusal) result P faulty came cause (inl ends) = rw ends (faulty_refusal refused out refusal P faulty cause)
faulty_ends refused comes out (Err refusal) result P faulty came cause (inr ends) = rw ends tt

-- what is asked of a state, asked of what was found
abbrev comes_of : {M : Type 0} → (M → Output → Type 0) → Result M Refusal → Output → Type 0
comes_of gives v output = IsOkAnd v (λ found. gives found output)

either_ends : {M : Type 0} (gives : M → Output → Type 0) (v held : Result M Refusal) (out : Option Output) (outcome : Result Finish Refusal) (result : Status) → (v ≡ held) ⊎ IsFaulty (refusal_in v)
    → IfSome out (λ o. (refusal_in v ≡ None) × comes_of gives v o) → Cause (refusal_in v) out outcome → EndsSo outcome result → UnlessFails (EndsBy (refusal_in held) (comes_of gives held)) result
either_ends {M} gives v held out outcome result (inl same) came cause ends = let P : Result M Refusal → Type 0 = λ w. UnlessFails (EndsBy (refusal_in w) (comes_of gives w)) result in subst P same (outcome_ends (refusal_in v) (comes_of gives v) out outcome result came cause ends)
either_ends gives v held out outcome result (inr faulty) came cause ends = faulty_ends (refusal_in v) (comes_of gives v) out outcome result (EndsBy (refusal_in held) (comes_of gives held)) faulty came cause ends

both : (task : Task) (given : Given) (out : Option Output) → IfSome out (ComesTo task given) → IfSome out (λ o. (task.refused given ≡ None) × task.comes given o)
both task given (Some output) h = (h.unrefused, h.comes)
both task given None h = tt

pub completes : {M : Type 0} (takes : M → Role → List ℕ → Result M Trouble) (stops : M → Option Trouble) (gives : M → Output → Type 0) (state : M) (files : List Role) (names : Role → List ℕ) (before after : World) (result : Status)
    → Runs (task_of takes stops gives state files) names before after result → IsTrue before.tells → UnlessFails (EndsAs (task_of takes stops gives state files) (held_files names before)) result
completes takes stops gives state files names before after result runs t =
    let v = reached takes stops state files runs.given in
    let w = reached takes stops state files (held_files names before) in
    either_ends gives v w runs.out runs.outcome result
    (reached_held takes stops state files runs.given (held_files names before) (λ role. gave_held (before.held (names role)) (runs.given role) (runs.told t role)))
    (both (task_of takes stops gives state files) runs.given runs.out runs.comes) runs.cause (ends_so names runs.outcome runs.complaint before after result runs.ends)
