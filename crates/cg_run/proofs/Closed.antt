-- What a run leaves once it was closed, whatever its mode.
use Rattle.std.proofs.Common.{◌≡◌, ◌⊎◌, inl, inr, ℕ, Bool, true, false, IsTrue, List, [], Option, None, Some, Result, Ok, Err}
use Rattle.std.proofs.Common.{refl, sym, ◌∙◌, ap, subst}
use Rattle.std.specs.Prelude.{IsSomeAnd}
use Rattle.cg_shelf.specs.World.{World}
use Rattle.cg_shelf.specs.Asked.{Calls}
use Rattle.cg_shelf.specs.Shelf.{AppendsFront}
use Rattle.cg_shelf.specs.declared.faults.Call.TheVariants as calls
use Rattle.cg_shelf.specs.declared.faults.StoreFault.{StoreFault}
use Rattle.cg_shelf.specs.declared.faults.StoreFault.TheVariants as stores
use Rattle.cg_run.specs.declared.writing.Finish.{Finish}
use Rattle.cg_run.specs.declared.writing.Finish.TheVariants as finishes
use Rattle.cg_run.specs.declared.writing.Output.{Output}
use Rattle.cg_run.specs.declared.refusal.Owner.{Owner}
use Rattle.cg_run.specs.declared.refusal.Owner.TheVariants as owners
use Rattle.cg_run.specs.declared.refusal.Refusal.{Refusal}
use Rattle.cg_run.specs.declared.refusal.Refusal.TheVariants as refusals
use Rattle.cg_run.specs.declared.refusal.Step.{Step}
use Rattle.cg_run.specs.declared.refusal.Step.TheVariants as steps
use Rattle.cg_run.specs.declared.role.Role.{Role}
use Rattle.cg_run.specs.declared.status.Status.{Status}
use Rattle.cg_run.specs.declared.status.Status.TheVariants as statuses
use Rattle.cg_run.specs.Refusal.{faults_of, outcome_faults, owner_status, shown_as, status_of, step_of}
use Rattle.cg_run.specs.Status.{finish_status}
use Rattle.cg_run.specs.Reads.{Untouched}
use Rattle.cg_run.specs.Run.{Cause, CauseAt, Ends, Leaves, StandsAt, status_after}
use Rattle.cg_run.specs.Writes.{HasStep, LeavesAt, Written}
use Rattle.cg_run.specs.ByStatus.{Broken, FailsBy, StandsBy}
use Rattle.cg_run.specs.Roles.{is_among}

-- how a run ends that came to this, if memory is there for its complaint
abbrev pub outcome_status : Result Finish Refusal → Status
outcome_status (Ok finish) = finish_status finish
outcome_status (Err refusal) = status_of refusal

abbrev pub EndsSo : Result Finish Refusal → Status → Type 0
EndsSo (Ok finish) result = result ≡ finish_status finish
EndsSo (Err refusal) result = (result ≡ status_of refusal) ⊎ (result ≡ statuses.NoMemory)

ends_refused : (refusal : Refusal) (has_line : Bool) (answer : Result (Unit {0}) StoreFault) (result : Status) → result ≡ status_after (status_of (shown_as has_line refusal)) answer → (result ≡ status_of refusal) ⊎ (result ≡ statuses.NoMemory)
ends_refused refusal true (Ok x) result ends = inl ends
ends_refused refusal true (Err stores.Failed) result ends = inl ends
ends_refused refusal true (Err stores.NoMemory) result ends = inr ends
ends_refused refusal false (Ok x) result ends = inr ends
ends_refused refusal false (Err stores.Failed) result ends = inr ends
ends_refused refusal false (Err stores.NoMemory) result ends = inr ends

pub ends_so : (names : Role → List ℕ) (outcome : Result Finish Refusal) (complaint : Calls) (before after : World) (result : Status) → Ends names outcome complaint before after result → EndsSo outcome result
ends_so names (Ok finish) complaint before after result ends = ends.status
ends_so names (Err refusal) complaint before after result ends = ends_refused refusal ends.has_line ends.answer result ends.status

-- facts of an output
pub some_step : (out : Option Output) (P Q : Output → Type 0) → ((output : Output) → P output → Q output) → IsSomeAnd out P → IsSomeAnd out Q
some_step (Some output) P Q step h = step output h
some_step None P Q step h = absurd h

pub some_both : (out : Option Output) (P Q R : Output → Type 0) → ((output : Output) → P output → Q output → R output) → IsSomeAnd out P → IsSomeAnd out Q → IsSomeAnd out R
some_both (Some output) P Q R step h k = step output h k
some_both None P Q R step h k = absurd h

-- what stands is not changed by a complaint
written_after : (names : Role → List ℕ) (output : Output) (before between after : World) → after.held ≡ between.held → after.said ≡ between.said → Written names output before between → Written names output before after
written_after names output before between after held said w = record {
  held = λ name. ap (λ h. h name) held ∙ w.held name;
  said = said ∙ w.said;
}

leaves_after : (names : Role → List ℕ) (output : Output) (step : Step) (before between after : World) → after.held ≡ between.held → after.said ≡ between.said → LeavesAt names output step before between → LeavesAt names output step before after
leaves_after names output steps.Reading before between after held said w = record { held = held ∙ w.held; said = said ∙ w.said }
leaves_after names output (steps.Storing role) before between after held said w = record {
  done = w.done;
  here = w.here;
  rest = w.rest;
  parts = w.parts;
  is = w.is;
  held = λ name apart. ap (λ h. h name) held ∙ w.held name apart;
  said = said ∙ w.said;
}
leaves_after names output steps.Saying before between after held said w = record {
  held = λ name. ap (λ h. h name) held ∙ w.held name;
  said = let P : List ℕ → Type 0 = λ s. AppendsFront before.said s output.said in subst P (sym said) w.said;
}

stands_after : (names : Role → List ℕ) (out : Option Output) (step : Step) (before between after : World) → after.held ≡ between.held → after.said ≡ between.said → StandsAt names out step before between → StandsAt names out step before after
stands_after names out steps.Reading before between after held said w = record { held = held ∙ w.held; said = said ∙ w.said }
stands_after names out (steps.Storing role) before between after held said w = some_step out (λ o. LeavesAt names o (steps.Storing role) before between) (λ o. LeavesAt names o (steps.Storing role) before after) (λ o. leaves_after names o (steps.Storing role) before between after held said) w
stands_after names out steps.Saying before between after held said w = some_step out (λ o. LeavesAt names o steps.Saying before between) (λ o. LeavesAt names o steps.Saying before after) (λ o. leaves_after names o steps.Saying before between after held said) w

pub stays : (names : Role → List ℕ) (out : Option Output) (outcome : Result Finish Refusal) (before between after : World) → after.held ≡ between.held → after.said ≡ between.said → Leaves names out before between outcome → Leaves names out before after outcome
stays names out (Ok finish) before between after held said w = some_step out (λ o. Written names o before between) (λ o. Written names o before after) (λ o. written_after names o before between after held said) w
stays names out (Err refusal) before between after held said w = stands_after names out (step_of refusal) before between after held said w

-- what stands, status by status
broken : (names : Role → List ℕ) (out : Option Output) (step : Step) (before after : World) → IsSomeAnd out (λ o. HasStep o step) → IsSomeAnd out (λ o. LeavesAt names o step before after) → IsSomeAnd out (λ o. Broken names o before after)
broken names out step before after has leaves = some_both out (λ o. HasStep o step) (λ o. LeavesAt names o step before after) (λ o. Broken names o before after) (λ o h l. record { step = step; writing = h; leaves = l }) has leaves

owner_stands : (names : Role → List ℕ) (out : Option Output) (before after : World) (owner : Owner) → Untouched before after → StandsBy names out before after (owner_status owner)
owner_stands names out before after owners.Netlist h = h
owner_stands names out before after owners.Library h = h
owner_stands names out before after owners.Stimulus h = h

memory_stands : (refused : Option Refusal) (names : Role → List ℕ) (out : Option Output) (refusal : Refusal) (step : Step) (before after : World) → CauseAt refused out refusal step → StandsAt names out step before after → StandsBy names out before after statuses.NoMemory
memory_stands refused names out refusal steps.Reading before after cause stands = inl stands
memory_stands refused names out refusal (steps.Storing role) before after cause stands = inr (broken names out (steps.Storing role) before after cause stands)
memory_stands refused names out refusal steps.Saying before after cause stands = inr (broken names out steps.Saying before after cause stands)

refusal_stands : (refused : Option Refusal) (names : Role → List ℕ) (out : Option Output) (refusal : Refusal) (before after : World) → CauseAt refused out refusal (step_of refusal) → StandsAt names out (step_of refusal) before after → StandsBy names out before after (status_of refusal)
refusal_stands refused names out (refusals.Content content) before after cause stands = owner_stands names out before after content.owner stands
refusal_stands refused names out (refusals.Limit limit) before after cause stands = stands
refusal_stands refused names out (refusals.Load role) before after cause stands = stands
refusal_stands refused names out (refusals.Store role) before after cause stands = broken names out (steps.Storing role) before after cause stands
refusal_stands refused names out refusals.Say before after cause stands = broken names out steps.Saying before after cause stands
refusal_stands refused names out (refusals.NoMemory step) before after cause stands = memory_stands refused names out (refusals.NoMemory step) step before after cause stands

finish_stands : (names : Role → List ℕ) (out : Option Output) (finish : Finish) (before after : World) → IsSomeAnd out (λ o. Written names o before after) → StandsBy names out before after (finish_status finish)
finish_stands names out finishes.Done before after h = h
finish_stands names out finishes.Rejected before after h = h

pub outcome_stands : (refused : Option Refusal) (names : Role → List ℕ) (out : Option Output) (outcome : Result Finish Refusal) (before after : World) (result : Status) → Cause refused out outcome → Leaves names out before after outcome → EndsSo outcome result → StandsBy names out before after result
outcome_stands refused names out (Ok finish) before after result cause leaves ends = let P : Status → Type 0 = λ s. StandsBy names out before after s in subst P (sym ends) (finish_stands names out finish before after leaves)
outcome_stands refused names out (Err refusal) before after result cause leaves (inl ends) = let P : Status → Type 0 = λ s. StandsBy names out before after s in subst P (sym ends) (refusal_stands refused names out refusal before after cause leaves)
outcome_stands refused names out (Err refusal) before after result cause leaves (inr ends) = let P : Status → Type 0 = λ s. StandsBy names out before after s in subst P (sym ends) (memory_stands refused names out refusal (step_of refusal) before after cause leaves)

-- the failed calls, status by status
owner_calls : (names : Role → List ℕ) (loads : List Role) (out : Option Output) (owner : Owner) → FailsBy names loads out [] (owner_status owner)
owner_calls names loads out owners.Netlist = refl
owner_calls names loads out owners.Library = refl
owner_calls names loads out owners.Stimulus = refl

refusal_calls : (refused : Option Refusal) (names : Role → List ℕ) (loads : List Role) (out : Option Output) (refusal : Refusal) → ((role : Role) → refused ≡ Some (refusals.Load role) → IsTrue (is_among role loads)) → CauseAt refused out refusal (step_of refusal)
    → FailsBy names loads out (faults_of names refusal) (status_of refusal)
refusal_calls refused names loads out (refusals.Content content) named cause = owner_calls names loads out content.owner
refusal_calls refused names loads out (refusals.Limit limit) named cause = refl
refusal_calls refused names loads out (refusals.Load role) named cause = (role, (named role cause, refl))
refusal_calls refused names loads out (refusals.Store role) named cause = inl (role, (cause, refl))
refusal_calls refused names loads out refusals.Say named cause = inr refl
refusal_calls refused names loads out (refusals.NoMemory step) named cause = inl refl

memory_calls : (names : Role → List ℕ) (loads : List Role) (out : Option Output) (refusal : Refusal) → FailsBy names loads out (faults_of names refusal) statuses.NoMemory
memory_calls names loads out (refusals.Content content) = inl refl
memory_calls names loads out (refusals.Limit limit) = inl refl
memory_calls names loads out (refusals.Load role) = inr (record { call = calls.Load; name = names role }, refl)
memory_calls names loads out (refusals.Store role) = inr (record { call = calls.Store; name = names role }, refl)
memory_calls names loads out refusals.Say = inr (record { call = calls.Say; name = [] }, refl)
memory_calls names loads out (refusals.NoMemory step) = inl refl

finish_calls : (names : Role → List ℕ) (loads : List Role) (out : Option Output) (finish : Finish) → FailsBy names loads out [] (finish_status finish)
finish_calls names loads out finishes.Done = refl
finish_calls names loads out finishes.Rejected = refl

pub outcome_calls : (refused : Option Refusal) (names : Role → List ℕ) (loads : List Role) (out : Option Output) (outcome : Result Finish Refusal) (result : Status) → ((role : Role) → refused ≡ Some (refusals.Load role) → IsTrue (is_among role loads)) → Cause refused out outcome → EndsSo outcome result
    → FailsBy names loads out (outcome_faults names outcome) result
outcome_calls refused names loads out (Ok finish) result named cause ends = let P : Status → Type 0 = λ s. FailsBy names loads out [] s in subst P (sym ends) (finish_calls names loads out finish)
outcome_calls refused names loads out (Err refusal) result named cause (inl ends) = let P : Status → Type 0 = λ s. FailsBy names loads out (faults_of names refusal) s in subst P (sym ends) (refusal_calls refused names loads out refusal named cause)
outcome_calls refused names loads out (Err refusal) result named cause (inr ends) = let P : Status → Type 0 = λ s. FailsBy names loads out (faults_of names refusal) s in subst P (sym ends) (memory_calls names loads out refusal)
