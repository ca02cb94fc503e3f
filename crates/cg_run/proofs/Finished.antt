-- A run that finished wrote what its files come to.
use Rattle.std.proofs.Common.{◌≡◌, inl, inr, ℕ, IsTrue, List, Option, None, Some, Result, Ok, Err, refl, sym, subst}
use Rattle.std.specs.Prelude.{IfSome, IsSomeAnd}
use Rattle.cg_shelf.specs.World.{World}
use Rattle.cg_run.specs.declared.writing.Finish.{Finish}
use Rattle.cg_run.specs.declared.writing.Finish.TheVariants as finishes
use Rattle.cg_run.specs.declared.writing.Output.{Output}
use Rattle.cg_run.specs.declared.refusal.Owner.{Owner}
use Rattle.cg_run.specs.declared.refusal.Owner.TheVariants as owners
use Rattle.cg_run.specs.declared.refusal.Refusal.{Refusal}
use Rattle.cg_run.specs.declared.refusal.Refusal.TheVariants as refusals
use Rattle.cg_run.specs.declared.role.Role.{Role}
use Rattle.cg_run.specs.declared.status.Status.{Status}
use Rattle.cg_run.specs.declared.status.Status.TheVariants as statuses
use Rattle.cg_run.specs.Promise.{FinishBy}
use Rattle.cg_run.specs.Reads.{Agrees}
use Rattle.cg_run.specs.Refusal.{owner_status, status_of}
use Rattle.cg_run.specs.Run.{Cause, Leaves, Runs}
use Rattle.cg_run.specs.Status.{finish_status}
use Rattle.cg_run.specs.Verdict.{ComesTo, Given, Task}
use Rattle.cg_run.specs.Writes.{Written}
use Rattle.cg_run.proofs.Closed.{EndsSo, ends_so}

-- what is known of a run that finished, over a shelf that tells
pub record Finishes (task : Task) (names : Role → List ℕ) (before after : World) (finish : Finish) : Type 0 where
  pub given : Given
  pub told : (role : Role) → Agrees (before.held (names role)) (given role)
  pub output : Output
  pub comes : ComesTo task given output
  pub ends : output.finish ≡ finish
  pub written : Written names output before after

owner_unfinished : (owner : Owner) (P : Finish → Type 0) → FinishBy P (owner_status owner)
owner_unfinished owners.Netlist P = tt
owner_unfinished owners.Library P = tt
owner_unfinished owners.Stimulus P = tt

unfinished : (refusal : Refusal) (P : Finish → Type 0) → FinishBy P (status_of refusal)
unfinished (refusals.Content content) P = owner_unfinished content.owner P
unfinished (refusals.Limit limit) P = tt
unfinished (refusals.Load role) P = tt
unfinished (refusals.Store role) P = tt
unfinished refusals.Say P = tt
unfinished (refusals.NoMemory step) P = tt

finish_status_by : (P : Finish → Type 0) (finish : Finish) → P finish → FinishBy P (finish_status finish)
finish_status_by P finishes.Done h = h
finish_status_by P finishes.Rejected h = h

outcome_by : (P : Finish → Type 0) (outcome : Result Finish Refusal) (result : Status) → EndsSo outcome result → ((finish : Finish) → outcome ≡ Ok finish → P finish) → FinishBy P result
outcome_by P (Ok finish) result ends each = let Q : Status → Type 0 = λ s. FinishBy P s in subst Q (sym ends) (finish_status_by P finish (each finish refl))
outcome_by P (Err refusal) result (inl ends) each = let Q : Status → Type 0 = λ s. FinishBy P s in subst Q (sym ends) (unfinished refusal P)
outcome_by P (Err refusal) result (inr ends) each = let Q : Status → Type 0 = λ s. FinishBy P s in subst Q (sym ends) tt

finishes_case : (task : Task) (names : Role → List ℕ) (before after : World) (finish : Finish) (given : Given) (out : Option Output)
    → ((role : Role) → Agrees (before.held (names role)) (given role)) → IfSome out (ComesTo task given) → IsSomeAnd out (λ o. o.finish ≡ finish) → IsSomeAnd out (λ o. Written names o before after) → Finishes task names before after finish
finishes_case task names before after finish given (Some output) told comes ends written = record { given = given; told = told; output = output; comes = comes; ends = ends; written = written }
finishes_case task names before after finish given None told comes ends written = absurd ends

done_case : (task : Task) (names : Role → List ℕ) (before after : World) (given : Given) (out : Option Output) (outcome : Result Finish Refusal) (finish : Finish) → outcome ≡ Ok finish
    → ((role : Role) → Agrees (before.held (names role)) (given role)) → IfSome out (ComesTo task given) → Cause (task.refused given) out outcome → Leaves names out before after outcome → Finishes task names before after finish
done_case task names before after given out outcome finish is told comes cause leaves =
    let C : Result Finish Refusal → Type 0 = λ o. Cause (task.refused given) out o in
    let L : Result Finish Refusal → Type 0 = λ o. Leaves names out before after o in
    finishes_case task names before after finish given out told comes (subst C is cause) (subst L is leaves)

pub finished_so : (task : Task) (names : Role → List ℕ) (before after : World) (result : Status) → Runs task names before after result → IsTrue before.tells
    → FinishBy (λ finish. Finishes task names before after finish) result
finished_so task names before after result runs t =
    outcome_by (λ finish. Finishes task names before after finish) runs.outcome result (ends_so names runs.outcome runs.complaint before after result runs.ends)
    (λ finish is. done_case task names before after runs.given runs.out runs.outcome finish is (runs.told t) runs.comes runs.cause (runs.leaves t))

-- a fact that follows from one of a finished run
pub finish_map : (P Q : Finish → Type 0) (result : Status) → ((finish : Finish) → P finish → Q finish) → FinishBy P result → FinishBy Q result
finish_map P Q result step h = map_case result h
  where
    map_case : (status : Status) → FinishBy P status → FinishBy Q status
    map_case statuses.Done k = step finishes.Done k
    map_case statuses.Rejected k = step finishes.Rejected k
    map_case statuses.Usage k = tt
    map_case statuses.Netlist k = tt
    map_case statuses.Library k = tt
    map_case statuses.Stimulus k = tt
    map_case statuses.ReadFault k = tt
    map_case statuses.WriteFault k = tt
    map_case statuses.Limit k = tt
    map_case statuses.NoMemory k = tt
