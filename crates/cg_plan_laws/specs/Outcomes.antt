-- What each outcome of a stage says, as sentences over all states and inputs.
use Rattle.std.specs.Prelude.{◌≡◌, ◌<◌, ◌≤◌, ℕ, Bool, true, List, length, slice_get, Some}
use Rattle.cg_cell.specs.Cell.{CellData}
use Rattle.cg_cell.specs.declared.fit.FitKind.{FitKind}
use Rattle.cg_claim.specs.Build.{nodes_of}
use Rattle.cg_claim.specs.Leaves.{width_of}
use Rattle.cg_claim.specs.Question.{Question}
use Rattle.cg_claim.specs.declared.name.ClaimName.{ClaimName}
use Rattle.cg_claim.specs.declared.name.ClaimName.TheVariants.{Enable, Hold as HoldName, Idle, Next as NextName, Output}
use Rattle.cg_claim.specs.declared.name.ClaimName.TheVariants.{Stable as StableName}
use Rattle.cg_limit.specs.declared.TheConstants.{MOST_CLAIM_NODES}
use Rattle.cg_machine.specs.Claims.{CanIdle, Hold, Joined, Literal, Next, Shown, Stable, Unseen, any_at}
use Rattle.cg_machine.specs.Machine.{IsInputs, IsMachine, IsState, MachineData, values}
use Rattle.cg_machine.specs.declared.stage.Stage.{Stage}
use Rattle.cg_plan_laws.specs.Laws.{IsInsertable}
use Rattle.cg_plan_laws.specs.StageClaims.{NamedClaim, all_claims, claims_of}
use Rattle.cg_plan_laws.specs.Trying.{Ends, tried}
use Rattle.cg_plan_laws.specs.declared.outcome.Outcome.{Outcome}
use Rattle.cg_plan_laws.specs.declared.outcome.Outcome.TheVariants.{Inserted, NeverIdle, NoCell, Refuted, Small, Wide}
use Rattle.cg_plan_laws.specs.declared.settings.Settings.{Settings}
use Rattle.cg_stage_laws.specs.Cells.{HasCell}
use Rattle.cg_stage_laws.specs.Needs.{needs}
use Rattle.cg_stage_laws.specs.Stages.{Fits, first_literal}

-- the claim of a stage that has this name, as a sentence over all states and inputs
abbrev pub ClaimHolds : MachineData → Stage → ClaimName → Type 0
ClaimHolds m s Idle = CanIdle m s.enable
ClaimHolds m s (HoldName r) = Hold m (first_literal s.enable) r
ClaimHolds m s (StableName r) = Stable m s.enable r
ClaimHolds m s (Output k) = (net : ℕ) → slice_get m.circuit.outputs k ≡ Some net → Unseen m s.enable s.guards s.regs (Shown net)
ClaimHolds m s (NextName r) = Unseen m s.enable s.guards s.regs (Next r)
ClaimHolds m s Enable = Unseen m s.enable s.guards s.regs Joined

-- a stage can idle, and the claim of this name is its first that does not hold
pub record IsFirstFalse (m : MachineData) (s : Stage) (name : ClaimName) : Type 0 where
  pub idles : CanIdle m s.enable
  pub place : ℕ
  pub question : Question
  pub named : slice_get (claims_of m s) place ≡ Some (name, question)
  pub before : (k : ℕ) (c : NamedClaim) → k < place → slice_get (claims_of m s) k ≡ Some c → ClaimHolds m s c.0
  pub fails : ClaimHolds m s name → ⊥

-- the claim of this name, which may be that the stage can idle, has so many leaves, more than are allowed; no claim before it has
-- more than are allowed, or more nodes than a claim may have
pub record IsTooWide (settings : Settings) (m : MachineData) (s : Stage) (name : ClaimName) (leaves : ℕ) : Type 0 where
  pub place : ℕ
  pub question : Question
  pub named : slice_get (all_claims m s) place ≡ Some (name, question)
  pub measured : leaves ≡ width_of m question
  pub above : settings.width < leaves
  pub before : (k : ℕ) (c : NamedClaim) → k < place → slice_get (all_claims m s) k ≡ Some c →
      (width_of m c.1 ≤ settings.width) × (nodes_of m c.1 ≤ MOST_CLAIM_NODES)

-- literals of which at least one is 1, in every state and at all inputs
abbrev pub IsNeverIdle : MachineData → List Literal → Type 0
IsNeverIdle m E = (state inputs : List Bool) → IsState m state → IsInputs m inputs → any_at (values m state inputs) E ≡ true

-- a stage has so many registers, fewer than are asked for
abbrev pub IsTooSmall : Settings → Stage → ℕ → Type 0
IsTooSmall settings s registers = (registers ≡ length s.regs) × (registers < settings.min)

-- of the kinds of cells that a stage needs, in order, this is the first of which the library has no cell
pub record IsLacking (library : List CellData) (settings : Settings) (s : Stage) (kind : FitKind) : Type 0 where
  pub place : ℕ
  pub needed : slice_get (needs settings.test s) place ≡ Some kind
  pub before : (k : ℕ) (other : FitKind) → k < place → slice_get (needs settings.test s) k ≡ Some other → HasCell library other
  pub none : HasCell library kind → ⊥

-- what an outcome says of a stage on a machine
abbrev pub Deserves : List CellData → Settings → MachineData → Stage → Outcome → Type 0
Deserves library settings m s Inserted = IsInsertable library settings m s
Deserves library settings m s (Refuted claim bits) = IsFirstFalse m s claim
Deserves library settings m s (Wide claim leaves) = IsTooWide settings m s claim leaves
Deserves library settings m s NeverIdle = IsNeverIdle m s.enable
Deserves library settings m s (Small registers) = IsTooSmall settings s registers
Deserves library settings m s (NoCell kind) = IsLacking library settings s kind

-- a stage that fits deserves what comes of it
abbrev pub OutcomesAreDeserved : Type 0
OutcomesAreDeserved = (library : List CellData) (settings : Settings) (m : MachineData) (s : Stage) (outcome : Outcome) →
    IsMachine m → Fits m s → tried library settings m s ≡ Ends outcome → Deserves library settings m s outcome
