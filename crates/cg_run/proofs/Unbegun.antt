-- A run that found no memory before it began, and what no run ends with.
use Rattle.std.proofs.Common.{◌≡◌, inl, inr, true, ℕ, List, [], ◌++◌, Option, None, Result, Ok, Err, refl, sym, ◌∙◌, ap, append-nil}
use Rattle.cg_shelf.specs.World.{World}
use Rattle.cg_run.specs.declared.writing.Finish.{Finish}
use Rattle.cg_run.specs.declared.writing.Finish.TheVariants as finishes
use Rattle.cg_run.specs.declared.writing.Output.{Output}
use Rattle.cg_run.specs.declared.refusal.Owner.{Owner}
use Rattle.cg_run.specs.declared.refusal.Owner.TheVariants as owners
use Rattle.cg_run.specs.declared.refusal.Refusal.{Refusal}
use Rattle.cg_run.specs.declared.refusal.Refusal.TheVariants as refusals
use Rattle.cg_run.specs.declared.refusal.Step.TheVariants as steps
use Rattle.cg_run.specs.declared.refusal.Trouble.{Trouble}
use Rattle.cg_run.specs.declared.role.Role.{Role}
use Rattle.cg_run.specs.declared.status.Status.{Status}
use Rattle.cg_run.specs.declared.status.Status.TheVariants as statuses
use Rattle.cg_run.specs.Reads.{load_calls}
use Rattle.cg_run.specs.Refusal.{complaint_text, owner_status, status_of}
use Rattle.cg_run.specs.Run.{Complains, Runs}
use Rattle.cg_run.specs.Status.{finish_status}
use Rattle.cg_run.specs.Verdict.{Task, task_of}
use Rattle.cg_run.proofs.Closed.{EndsSo, ends_so}
use Rattle.cg_run.proofs.Named.{load_named}
use Rattle.cg_run.proofs.Whole.{runs_closed}
use Rattle.cg_run.proofs.ReadHalf.{end_as}
use Rattle.cg_run.proofs.RoleLaws.{asked_none, none_given}

-- nothing was done but that want of memory was complained of
pub runs_unbegun : {M : Type 0} (takes : M → Role → List ℕ → Result M Trouble) (stops : M → Option Trouble) (gives : M → Output → Type 0) (names : Role → List ℕ) (state : M) (files : List Role) (before after : World) (result : Status)
    → Complains (complaint_text names (refusals.NoMemory steps.Reading)) statuses.NoMemory before after result → Runs (task_of takes stops gives state files) names before after result
runs_unbegun takes stops gives names state files before after result complains =
    runs_closed (task_of takes stops gives state files) names (Err (refusals.NoMemory steps.Reading)) before before after result (load_named takes stops state files)
    (record {
      given = none_given;
      told = λ t role. tt;
      out = None;
      comes = tt;
      cause = refl;
      unloaded = end_as Finish (Err (refusals.NoMemory steps.Reading)) (sym (asked_none takes state files)) tt;
      leaves = λ t. record { held = refl; said = refl };
      writes = [];
      made = refl;
      listed = sym (ap (λ l. before.calls ++ load_calls names l ++ []) (asked_none takes state files) ∙ append-nil (before.calls ++ []) ∙ append-nil before.calls);
      quiet = λ t. refl;
      tells = refl;
      failed = sym (append-nil before.faults);
    })
    (record { has_line = true; is_there = refl; complains = complains })

-- no run ends with Usage
owner_used : (owner : Owner) → owner_status owner ≡ statuses.Usage → ⊥
owner_used owners.Netlist h = cc
owner_used owners.Library h = cc
owner_used owners.Stimulus h = cc

refusal_used : (refusal : Refusal) → status_of refusal ≡ statuses.Usage → ⊥
refusal_used (refusals.Content content) h = owner_used content.owner h
refusal_used (refusals.Limit limit) h = cc
refusal_used (refusals.Load role) h = cc
refusal_used (refusals.Store role) h = cc
refusal_used refusals.Say h = cc
refusal_used (refusals.NoMemory step) h = cc

finish_used : (finish : Finish) → finish_status finish ≡ statuses.Usage → ⊥
finish_used finishes.Done h = cc
finish_used finishes.Rejected h = cc

ends_used : (outcome : Result Finish Refusal) (result : Status) → EndsSo outcome result → result ≡ statuses.Usage → ⊥
ends_used (Ok finish) result ends used = finish_used finish (sym ends ∙ used)
ends_used (Err refusal) result (inl ends) used = refusal_used refusal (sym ends ∙ used)
ends_used (Err refusal) result (inr ends) used = let e : statuses.NoMemory ≡ statuses.Usage = sym ends ∙ used in cc

pub never_usage : (task : Task) (names : Role → List ℕ) (before after : World) (result : Status) → Runs task names before after result → result ≡ statuses.Usage → ⊥
never_usage task names before after result runs used = ends_used runs.outcome result (ends_so names runs.outcome runs.complaint before after result runs.ends) used
