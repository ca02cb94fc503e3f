-- What each outcome of a hint says of it, as sentences over all states and inputs.
use Rattle.std.specs.Prelude.{◌≡◌, ◌↔◌, ◌<◌, ◌≤◌, ℕ, Bool, true, List, slice_get, None, Some, Ok}
use Rattle.cg_cell.specs.Cell.{CellData}
use Rattle.cg_cell.specs.declared.fit.FitKind.{FitKind}
use Rattle.cg_limit.specs.declared.TheConstants.{MOST_CLAIM_NODES}
use Rattle.cg_machine.specs.Machine.{IsInputs, IsMachine, IsState, MachineData, enable_of, values}
use Rattle.cg_stage_laws.specs.Cells.{HasCell}
use Rattle.cg_stage_laws.specs.Needs.{missing}
use Rattle.cg_hint_laws.specs.Answers.{without_bits}
use Rattle.cg_hint_laws.specs.Hints.{AreFree, CanIdle, Fits, condition_at}
use Rattle.cg_hint_laws.specs.Laws.{AllFit, IsFirstRefuted, IsInsertable}
use Rattle.cg_hint_laws.specs.Needs.{needs}
use Rattle.cg_hint_laws.specs.Trying.{Hinted, Turn, all_claims, claim_nodes, claim_width, hinted, tried}
use Rattle.cg_hint_laws.specs.declared.hint.Hint.{Hint}
use Rattle.cg_hint_laws.specs.declared.outcome.HintClaim.{HintClaim}
use Rattle.cg_hint_laws.specs.declared.outcome.HintOutcome.{HintOutcome}
use Rattle.cg_hint_laws.specs.declared.outcome.HintOutcome.TheVariants.{Inserted, NeverIdle, NoCell, Refuted, Taken, Wide}

-- What comes of a hint is the first that applies, so each sentence but the first also says that those before it do not.

-- a register of a hint has an enable, and those before it have none
pub record IsTaken (m : MachineData) (h : Hint) (register : ℕ) : Type 0 where
  pub place : ℕ
  pub at : slice_get h.regs place ≡ Some register
  pub enable : ℕ
  pub taken : enable_of m register ≡ Some enable
  pub before : (k r : ℕ) → k < place → slice_get h.regs k ≡ Some r → enable_of m r ≡ None

-- no register of a hint has an enable; of the kinds of cells that it needs, in order, this is the first of which the library has no cell
pub record IsLacking (library : List CellData) (m : MachineData) (h : Hint) (kind : FitKind) : Type 0 where
  pub free : AreFree m h
  pub place : ℕ
  pub needed : slice_get (needs h) place ≡ Some kind
  pub before : (k : ℕ) (other : FitKind) → k < place → slice_get (needs h) k ≡ Some other → HasCell library other
  pub none : HasCell library kind → ⊥

-- no register of a hint has an enable, and the library has each cell that it needs
pub record IsReady (library : List CellData) (m : MachineData) (h : Hint) : Type 0 where
  pub free : AreFree m h
  pub cells : missing library (needs h) ≡ None

-- a claim of a hint that is ready, which may be that its condition can be 0, has so many leaves, more than are allowed; none before it has
pub record IsTooWide (library : List CellData) (width : ℕ) (m : MachineData) (h : Hint) (claim : HintClaim) (leaves : ℕ) : Type 0 where
  pub ready : IsReady library m h
  pub place : ℕ
  pub named : slice_get (all_claims h) place ≡ Some claim
  pub measured : leaves ≡ claim_width m h claim
  pub above : width < leaves
  pub before : (k : ℕ) (c : HintClaim) → k < place → slice_get (all_claims h) k ≡ Some c → claim_width m h c ≤ width

-- a hint is ready, and none of its claims has too many leaves or nodes
pub record IsMeasured (library : List CellData) (width : ℕ) (m : MachineData) (h : Hint) : Type 0 where
  pub ready : IsReady library m h
  pub narrow : (k : ℕ) (c : HintClaim) → slice_get (all_claims h) k ≡ Some c → claim_width m h c ≤ width
  pub small : (k : ℕ) (c : HintClaim) → slice_get (all_claims h) k ≡ Some c → claim_nodes m h c ≤ MOST_CLAIM_NODES

-- the condition of a hint that is measured is 1 in every state and at all inputs
pub record IsNeverIdle (library : List CellData) (width : ℕ) (m : MachineData) (h : Hint) : Type 0 where
  pub measured : IsMeasured library width m h
  pub never : (state inputs : List Bool) → IsState m state → IsInputs m inputs → condition_at (values m state inputs) h.terms ≡ true

-- the condition of a hint that is measured can be 0, and the claim is that of its first register that can change its bit: those of the
-- registers before it hold
pub record IsFirstFalse (library : List CellData) (width : ℕ) (m : MachineData) (h : Hint) (claim : HintClaim) : Type 0 where
  pub measured : IsMeasured library width m h
  pub idles : CanIdle m h.terms
  pub first : IsFirstRefuted m h claim

-- what an outcome says of a hint on a machine
abbrev pub Deserves : List CellData → ℕ → MachineData → Hint → HintOutcome → Type 0
Deserves library width m h Inserted = IsInsertable library width m h
Deserves library width m h (Taken register) = IsTaken m h register
Deserves library width m h (NoCell kind) = IsLacking library m h kind
Deserves library width m h (Wide claim leaves) = IsTooWide library width m h claim leaves
Deserves library width m h NeverIdle = IsNeverIdle library width m h
Deserves library width m h (Refuted claim bits) = IsFirstFalse library width m h claim

-- an outcome comes of a hint that fits, but for the bits of a refuted claim, exactly where the hint deserves it
abbrev pub OutcomesAreDeserved : Type 0
OutcomesAreDeserved = (library : List CellData) (width : ℕ) (m : MachineData) (h : Hint) (outcome : HintOutcome) →
    IsMachine m → Fits m h → (tried library width m h ≡ Ok (without_bits outcome)) ↔ Deserves library width m h outcome

-- each of hints that are tried one after another deserves what comes of it, on the machine of its turn
abbrev pub TurnsAreDeserved : Type 0
TurnsAreDeserved = (library : List CellData) (width : ℕ) (m : MachineData) (hs : List Hint) (done : Hinted) → IsMachine m → AllFit m hs →
    hinted library width m hs ≡ Ok done → (k : ℕ) (turn : Turn) → slice_get done.turns k ≡ Some turn →
    Deserves library width turn.machine turn.hint turn.outcome
