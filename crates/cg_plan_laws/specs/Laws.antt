-- What is proved of trying stages and of plans.
use Rattle.std.specs.Prelude.{◌≡◌, ◌↔◌, ◌≤◌, ℕ, Bool, List, length, Option, None, slice_get, Some, ◌+◌, ◌++◌, [], ◌∷◌}
use Rattle.cg_cell.specs.Cell.{CellData}
use Rattle.cg_limit.specs.declared.TheConstants.{MOST_CLAIM_NODES}
use Rattle.cg_netlist.specs.Circuit.{Circuit}
use Rattle.cg_netlist.specs.History.{IsLawful, IsStart, IsWaveform, Moment, Tick, outputs_of}
use Rattle.cg_machine.specs.Claims.{CanIdle}
use Rattle.cg_machine.specs.Machine.{IsMachine, MachineData}
use Rattle.cg_machine.specs.Run.{Same, shown}
use Rattle.cg_machine.specs.Start.{CanStart, machine_of}
use Rattle.cg_machine.specs.declared.stage.Stage.{Stage}
use Rattle.cg_claim.specs.Build.{nodes_of}
use Rattle.cg_claim.specs.Leaves.{width_of}
use Rattle.cg_stage_list_laws.specs.Literals.{ZeroCounts}
use Rattle.cg_stage_laws.specs.Effects.{limit_by}
use Rattle.cg_stage_laws.specs.Laws.{After}
use Rattle.cg_stage_laws.specs.Needs.{missing, needs}
use Rattle.cg_stage_laws.specs.Stages.{ClaimsHold, Fits}
use Rattle.cg_stage_laws.specs.Cells.{HasCells}
use Rattle.cg_plan_laws.specs.Plan.{Turn, plan_of}
use Rattle.cg_plan_laws.specs.StageClaims.{NamedClaim, all_claims}
use Rattle.cg_plan_laws.specs.Trying.{Ends, tried}
use Rattle.cg_plan_laws.specs.Reported.{AreAppended, AreCertified, AreTold, IsPlan, TellsOutcome, ReportedPlan, claims_for, plan_claims}
use Rattle.cg_plan_laws.specs.declared.certificate.Certificate.{Certificate}
use Rattle.cg_plan_laws.specs.declared.outcome.Outcome.{Outcome}
use Rattle.cg_plan_laws.specs.declared.outcome.Outcome.TheVariants.{Inserted}
use Rattle.cg_plan_laws.specs.declared.settings.Settings.{Settings}
use Rattle.cg_stage_laws.specs.Effects.{effect}

-- What a stage needs to be inserted: it is large enough, the library has its cells, its claims are narrow and have no more
-- nodes than a claim may have, it can idle, its claims hold over all states and inputs, and no other limit is passed.
pub record IsInsertable (library : List CellData) (settings : Settings) (m : MachineData) (s : Stage) : Type 0 where
  pub large : settings.min ≤ length s.regs
  pub cells : missing library (needs settings.test s) ≡ None
  pub narrow : (k : ℕ) (c : NamedClaim) → slice_get (all_claims m s) k ≡ Some c →
      (width_of m c.1 ≤ settings.width) × (nodes_of m c.1 ≤ MOST_CLAIM_NODES)
  pub idles : CanIdle m s.enable
  pub holds : ClaimsHold s.kind m s
  pub room : limit_by s.kind m s ≡ None

-- a stage that fits is inserted exactly where it deserves it
abbrev pub InsertedExactly : Type 0
InsertedExactly = (library : List CellData) (settings : Settings) (m : MachineData) (s : Stage) → IsMachine m → Fits m s →
    (tried library settings m s ≡ Ends Inserted) ↔ IsInsertable library settings m s

-- and then the machine after it shows what the machine before it shows
abbrev pub InsertedIsSafe : Type 0
InsertedIsSafe = (library : List CellData) (settings : Settings) (m : MachineData) (s : Stage) → IsMachine m → Fits m s →
    tried library settings m s ≡ Ends Inserted → After m s (effect m s)

-- the turn of a stage: it is tried on a machine that it fits, and its outcome is what comes of it there
pub record IsTurn (library : List CellData) (settings : Settings) (turn : Turn) : Type 0 where
  pub is_machine : IsMachine turn.machine
  pub fits : Fits turn.machine turn.stage
  pub comes : tried library settings turn.machine turn.stage ≡ Ends turn.outcome

-- so it is with each stage of a plan: the stages of its lists still fit at their turn
abbrev pub EachFits : Type 0
EachFits = (library : List CellData) (settings : Settings) (counts : Option ZeroCounts) (m : MachineData) → IsMachine m
    → (k : ℕ) (turn : Turn) → slice_get (plan_of library settings counts m).turns k ≡ Some turn → IsTurn library settings turn

-- the machine of a plan is a machine, and shows what the machine shows that the plan begins with
abbrev pub PlanIsSafe : Type 0
PlanIsSafe = (library : List CellData) (settings : Settings) (counts : Option ZeroCounts) (m : MachineData) → IsMachine m →
    IsMachine (plan_of library settings counts m).machine × Same m (plan_of library settings counts m).machine

-- where the library has the cells that the machine asks for with which a plan begins, it has those for the plan's machine
abbrev pub PlanHasCells : Type 0
PlanHasCells = (library : List CellData) (settings : Settings) (counts : Option ZeroCounts) (m : MachineData) → IsMachine m →
    HasCells library settings.test m → HasCells library settings.test (plan_of library settings counts m).machine

-- begun with the machine of a netlist, it shows what the netlist shows in its lawful history
abbrev pub PlanShowsNetlist : Type 0
PlanShowsNetlist = (library : List CellData) (settings : Settings) (counts : Option ZeroCounts) (c : Circuit) (prefix : List ℕ) →
    CanStart c prefix
    → (start : List Bool) (wave : List Tick) (history : List Moment) → IsStart c start → IsWaveform c wave →
    IsLawful c start wave history
    → shown (plan_of library settings counts (machine_of c prefix)).machine start wave ≡ outputs_of c history

-- the same of a plan as it is told
abbrev pub ReportedIsSafe : Type 0
ReportedIsSafe = (library : List CellData) (settings : Settings) (counts : Option ZeroCounts) (m : MachineData) (told : ReportedPlan) →
    IsMachine m → IsPlan library settings counts m told → IsMachine told.machine × Same m told.machine

-- What is told of a plan may be told turn by turn: of one more turn its stage with its outcome behind the others, and the
-- certificates of its claims behind the others.
abbrev pub StagesAreReported : Type 0
StagesAreReported = (turns : List Turn) (told : List (Stage × Outcome)) (turn : Turn) (outcome : Outcome) → AreTold turns told →
    TellsOutcome turn.machine turn.stage (Ends turn.outcome) outcome
    → AreTold (turns ++ turn ∷ []) (told ++ (turn.stage, outcome) ∷ [])

abbrev pub CertificatesAreReported : Type 0
CertificatesAreReported = (turns : List Turn) (turn : Turn) (before after : List Certificate) →
    AreCertified (plan_claims 1 turns) before
    → AreAppended (claims_for (1 + length turns) turn.machine turn.stage turn.outcome) before after →
    AreCertified (plan_claims 1 (turns ++ turn ∷ [])) after
