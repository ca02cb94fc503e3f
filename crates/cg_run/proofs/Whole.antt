-- A whole run, from what was attempted and how it closed.
use Rattle.std.proofs.Common.{◌≡◌, ℕ, IsTrue, List, ◌++◌, Some, Result, ◌∙◌, ap}
use Rattle.cg_shelf.specs.World.{World}
use Rattle.cg_run.specs.declared.writing.Finish.{Finish}
use Rattle.cg_run.specs.declared.refusal.Refusal.{Refusal}
use Rattle.cg_run.specs.declared.refusal.Refusal.TheVariants as refusals
use Rattle.cg_run.specs.declared.role.Role.{Role}
use Rattle.cg_run.specs.declared.status.Status.{Status}
use Rattle.cg_run.specs.Roles.{is_among}
use Rattle.cg_run.specs.Run.{Closes, Leaves, Runs}
use Rattle.cg_run.specs.Verdict.{Given, Task}
use Rattle.cg_run.specs.inner.Steps.{Attempts}
use Rattle.cg_run.proofs.Closed.{ends_so, outcome_calls, outcome_stands, stays}
use Rattle.cg_run.proofs.ReadHalf.{tells_on}
use Rattle.cg_run.proofs.Voice.{complained_once, complaint_by, ended, same_held, same_said, same_tells}

-- what the files of a mode are refused for, if it is a load, is that of a file which it loads
abbrev pub IsNamed : Task → Type 0
IsNamed task = (given : Given) (role : Role) → task.refused given ≡ Some (refusals.Load role) → IsTrue (is_among role task.loads)

pub runs_closed : (task : Task) (names : Role → List ℕ) (outcome : Result Finish Refusal) (before between after : World) (result : Status) → IsNamed task → Attempts task names before between outcome
    → Closes names outcome between after result → Runs task names before after result
runs_closed task names outcome before between after result named a closes =
    let ends = ended names outcome before between after result a.tells a.quiet a.failed closes in
    let complaint = complaint_by names outcome between after result closes in
    let so = ends_so names outcome complaint before after result ends in
    let leaves : IsTrue before.tells → Leaves names a.out before after outcome = λ t.
    let u = tells_on before.tells between.tells a.tells t in
    stays names a.out outcome before between after (same_held names outcome between after result closes u) (same_said names outcome between after result closes u) (a.leaves t) in
    record {
      given = a.given;
      out = a.out;
      outcome = outcome;
      complaint = complaint;
      told = a.told;
      comes = a.comes;
      cause = a.cause;
      unloaded = a.unloaded;
      calls = record { writes = a.writes; made = a.made; listed = complained_once names outcome between after result closes ∙ ap (λ l. l ++ complaint) a.listed };
      ends = ends;
      leaves = leaves;
      tells = same_tells names outcome between after result closes ∙ a.tells;
      stands = λ t. outcome_stands (task.refused a.given) names a.out outcome before after result a.cause (leaves t) so;
      fails = outcome_calls (task.refused a.given) names task.loads a.out outcome result (named a.given) a.cause so;
    }
