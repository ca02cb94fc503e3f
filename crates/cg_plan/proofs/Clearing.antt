-- Stages that are known to come through their claims.
use Rattle.std.proofs.Common.{◌≡◌, List}
use Rattle.cg_cell.specs.Cell.{CellData}
use Rattle.cg_machine.specs.Machine.{IsMachine, MachineData}
use Rattle.cg_machine.specs.declared.stage.Stage.{Stage}
use Rattle.cg_plan_laws.specs.Cleared.{AllCleared}
use Rattle.cg_plan_laws.specs.Plan.{after_outcome}
use Rattle.cg_plan_laws.specs.Reported.{without_bits}
use Rattle.cg_plan_laws.specs.Trying.{Ends, tried}
use Rattle.cg_plan_laws.specs.declared.outcome.Outcome.{Outcome}
use Rattle.cg_plan_laws.specs.declared.outcome.Outcome.TheVariants.{Inserted, NeverIdle, NoCell, Refuted, Small, Wide}
use Rattle.cg_plan_laws.specs.declared.settings.Settings.{Settings}
use Rattle.cg_plan_laws.proofs.AllSafe.{inserted_safe}
use Rattle.cg_plan_laws.proofs.ClearedOn.{cleared_on}
use Rattle.cg_plan.specs.inner.Drafting.{StayCleared}
use Rattle.cg_stage_laws.specs.Stages.{Fits}

-- stages that come through their claims still do so after one that shares no register with them
pub stay_cleared : (library : List CellData) (settings : Settings) (m : MachineData) (s : Stage) (outcome : Outcome) → IsMachine m → Fits m s
    → tried library settings m s ≡ Ends (without_bits outcome) → StayCleared settings.width s m (after_outcome m s outcome)
stay_cleared library settings m s outcome good fits comes is stages apart fit cleared = go outcome comes
  where
    go : (o : Outcome) → tried library settings m s ≡ Ends (without_bits o) → AllCleared (after_outcome m s o) settings.width stages
    go Inserted tells = cleared_on m settings.width s stages good is (inserted_safe library settings m s good fits tells) apart fit cleared
    go (Refuted claim bits) tells = cleared
    go (Wide claim leaves) tells = cleared
    go NeverIdle tells = cleared
    go (Small registers) tells = cleared
    go (NoCell kind) tells = cleared
