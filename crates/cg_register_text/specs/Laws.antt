-- What is proved of causes and of rises.
use Rattle.std.specs.Prelude.{◌≡◌, ◌<◌, ℕ, ◌+◌, List, length, map, sum, Option}
use Rattle.std.specs.List.{count_by}
use Rattle.cg_cell.specs.Cell.{CellData}
use Rattle.cg_extract.specs.Lifted.{CanExtract, lifted}
use Rattle.cg_hint_laws.specs.Answers.{AreShown}
use Rattle.cg_hint_laws.specs.Laws.{AllFit}
use Rattle.cg_hint_laws.specs.Trying.{Hinted, Turn as HintTurn, hinted}
use Rattle.cg_hint_laws.specs.declared.hint.Hint.{Hint}
use Rattle.cg_hint_laws.specs.declared.outcome.HintOutcome.{HintOutcome}
use Rattle.cg_machine.specs.Machine.{MachineData}
use Rattle.cg_machine.specs.declared.stage.Stage.{Stage}
use Rattle.cg_netlist.specs.Circuit.{Circuit}
use Rattle.cg_netlist.specs.History.{Moment, edges}
use Rattle.cg_plan_laws.specs.Plan.{Turn}
use Rattle.cg_plan_laws.specs.Reported.{AreTold}
use Rattle.cg_plan_laws.specs.declared.outcome.Outcome.{Outcome}
use Rattle.cg_plan_laws.specs.declared.settings.Settings.{Settings}
use Rattle.cg_stage_list_laws.specs.Literals.{ZeroCounts}
use Rattle.std.specs.Prelude.{Ok}
use Rattle.cg_register_text.specs.Causes.{Tried, cause_of, causes_of}
use Rattle.cg_register_text.specs.Meaning.{Course, IsCourse, Means, hint_turn_trial, tried_in, turn_trial}
use Rattle.cg_register_text.specs.Rises.{rises_of}
use Rattle.cg_register_text.specs.Trials.{hint_trials, stage_trials}
use Rattle.cg_register_text.specs.Words.{GatedData, is_free, is_gated, is_given, is_tried, is_wide, registers_text, tried_of}
use Rattle.cg_register_text.specs.declared.cause.Cause.{Cause}
use Rattle.cg_register_text.specs.declared.rises.BothRises.{BothRises}

-- the course of hints and of a plan, in which a netlist can be extracted and the hints fit its machine
pub record IsRightCourse (library : List CellData) (settings : Settings) (counts : Option ZeroCounts) (prefix : List ℕ)
    (hints : List Hint) (w : Course) : Type 0 where
  pub extracts : CanExtract w.read prefix
  pub fit : AllFit (lifted w.read prefix) hints
  pub course : IsCourse library settings counts prefix hints w

-- each cause says of its register what it is to say
abbrev pub CausesMean : Type 0
CausesMean = (library : List CellData) (settings : Settings) (counts : Option ZeroCounts) (prefix : List ℕ) (hints : List Hint)
    (w : Course) → IsRightCourse library settings counts prefix hints w → (r : ℕ) → r < length w.read.registers →
    Means w r (cause_of (tried_in w) r)

-- how many causes are of some kind
abbrev pub of_kinds : List Cause → ℕ
of_kinds found =
    count_by is_gated found + count_by is_given found + count_by is_tried found + count_by is_wide found + count_by is_free found

-- each register of the netlist has one cause, of one kind: the sums of the kinds add up to the registers
abbrev pub KindsAddUp : Type 0
KindsAddUp = (t : Tried) → (length (causes_of t) ≡ length t.read.registers) × (of_kinds (causes_of t) ≡ length t.read.registers)

-- the plan's machine gives the same causes as the machine with which the plan began
abbrev pub WidthsAreKept : Type 0
WidthsAreKept = (library : List CellData) (settings : Settings) (counts : Option ZeroCounts) (prefix : List ℕ) (hints : List Hint)
    (w : Course) → IsRightCourse library settings counts prefix hints w → (r : ℕ) → r < length w.read.registers →
    cause_of (record (tried_in w) { began = w.ended }) r ≡ cause_of (tried_in w) r

-- and the same text
abbrev pub TextIsKept : Type 0
TextIsKept = (library : List CellData) (settings : Settings) (counts : Option ZeroCounts) (prefix : List ℕ) (hints : List Hint)
    (w : Course) → IsRightCourse library settings counts prefix hints w → (g : GatedData) → tried_of g ≡ tried_in w
    → (rises : Option BothRises) → registers_text (record g { began = w.ended }) rises ≡ registers_text g rises

-- stages as they are told are the trials of their turns
abbrev pub StagesAreTold : Type 0
StagesAreTold = (turns : List Turn) (told : List (Stage × Outcome)) → AreTold turns told → stage_trials told ≡ map turn_trial turns

-- hints with these registers are the trials of their turns, with the outcomes as they are told
abbrev pub HintsAreTold : Type 0
HintsAreTold = (turns : List HintTurn) (hints : List Hint) (outcomes : List HintOutcome) →
    map (λ (h : Hint). h.regs) hints ≡ map (λ (turn : HintTurn). turn.hint.regs) turns → AreShown turns outcomes →
    hint_trials hints outcomes ≡ map hint_turn_trial turns

-- hints have their turns in order
abbrev pub HintsStand : Type 0
HintsStand = (library : List CellData) (width : ℕ) (m : MachineData) (hints : List Hint) (done : Hinted) →
    hinted library width m hints ≡ Ok done → map (λ (turn : HintTurn). turn.hint) done.turns ≡ hints

-- the rises of the registers of a netlist are its edges
abbrev pub RisesAreEdges : Type 0
RisesAreEdges = (c : Circuit) (history : List Moment) → sum (rises_of c history) ≡ edges c history
