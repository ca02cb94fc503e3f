-- What trying a stage does to a machine and to the certificates.
use Rattle.std.specs.Prelude.{◌≡◌, ℕ, if◌then◌else◌, List, []}
use Rattle.cg_cell.specs.Cell.{CellData}
use Rattle.cg_stage_laws.specs.Appends.{Keeps}
use Rattle.cg_machine.specs.Machine.{MachineData}
use Rattle.cg_machine.specs.declared.stage.Stage.{Stage}
use Rattle.cg_netlist.specs.declared.fault.AddFault.{AddFault}
use Rattle.cg_plan.specs.Planning.{StayWritable}
use Rattle.cg_plan_laws.specs.Outcomes.{Deserves}
use Rattle.cg_plan_laws.specs.Plan.{after_outcome}
use Rattle.cg_plan_laws.specs.Reported.{AreAppended, MayFail, TellsOutcome, claims_for}
use Rattle.cg_plan_laws.specs.Trying.{tried}
use Rattle.cg_plan_laws.specs.declared.certificate.Certificate.{Certificate}
use Rattle.cg_plan_laws.specs.declared.outcome.Outcome.{Outcome}
use Rattle.cg_plan_laws.specs.declared.outcome.Outcome.TheVariants.{Inserted}
use Rattle.cg_plan_laws.specs.declared.settings.Settings.{Settings}
use Rattle.cg_stage_laws.specs.Laws.{After}

-- where the stage is inserted, n is m after it: from every start with 1 in the delay registers and over every waveform it
-- shows what m shows
abbrev pub WhereInserted : MachineData → Stage → Outcome → MachineData → Type 0
WhereInserted m s Inserted n = After m s n
WhereInserted m s _ n = Unit {0}

-- A stage was tried on m as the stage of this number, and n is the machine after it. What the outcome says is so. An inserted
-- stage has its effect, and the certificates of its claims stand behind those from before where the settings ask for proofs, and
-- else none do; any other outcome leaves the machine and the certificates.
pub record IsTried (library : List CellData) (settings : Settings) (number : ℕ) (m : MachineData) (s : Stage)
    (before : List Certificate) (end : Outcome) (n : MachineData) (after : List Certificate) : Type 0 where
  pub outcome : TellsOutcome m s (tried library settings m s) end
  pub deserved : Deserves library settings m s end
  pub machine : n ≡ after_outcome m s end
  pub safe : WhereInserted m s end n
  pub certificates : AreAppended (if settings.proof then claims_for number m s end else []) before after
  pub writable : StayWritable before after

-- a stage was refused: the limit is the one that is passed, the certificates are those from before, and to the machine at most
-- gates and delay registers were added
pub record IsRefused (library : List CellData) (settings : Settings) (m : MachineData) (s : Stage) (before : List Certificate)
    (why : AddFault) (n : MachineData) (after : List Certificate) : Type 0 where
  pub fault : MayFail (tried library settings m s) why
  pub kept : Keeps m n
  pub unchanged : after ≡ before
