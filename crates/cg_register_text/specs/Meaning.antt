-- What a cause says of its register.
use Rattle.std.specs.Prelude.{◌≡◌, ◌<◌, ◌≤◌, ℕ, ◌+◌, ◌-◌, Bool, true, false, ◌&&◌, if◌then◌else◌, List, [], ◌∷◌, map, slice_get, Option, None, Some}
use Rattle.std.specs.Prelude.{Result, Ok, Err}
use Rattle.std.specs.Option.{option_map_or}
use Rattle.cg_cell.specs.Cell.{CellData}
use Rattle.cg_claim.specs.Leaves.{width_of}
use Rattle.cg_claim.specs.Question.{hold_question}
use Rattle.cg_extract.specs.Lifted.{lifted}
use Rattle.cg_hint_laws.specs.Effects.{hint_answer}
use Rattle.cg_hint_laws.specs.Trying.{Turn as HintTurn, hinted as hinted_by, is_inserted as is_inserted_hint}
use Rattle.cg_hint_laws.specs.declared.hint.Hint.{Hint as HintData}
use Rattle.cg_machine.specs.Added.{Added}
use Rattle.cg_machine.specs.Claims.{CanIdle, Hold, Literal}
use Rattle.cg_machine.specs.Machine.{MachineData, enable_of}
use Rattle.cg_net.specs.NetSets.{is_in}
use Rattle.cg_netlist.specs.Circuit.{Circuit}
use Rattle.cg_netlist.specs.declared.fault.AddFault.{AddFault}
use Rattle.cg_plan_laws.specs.Plan.{Turn, is_inserted, plan_of}
use Rattle.cg_plan_laws.specs.declared.settings.Settings.{Settings}
use Rattle.cg_stage_laws.specs.Effects.{net_by}
use Rattle.cg_stage_list_laws.specs.HoldList.{hold_width}
use Rattle.cg_stage_list_laws.specs.Literals.{ZeroCounts}
use Rattle.cg_stage_list_laws.specs.Supports.{input_cone}
use Rattle.cg_register_text.specs.Causes.{Tried}
use Rattle.cg_register_text.specs.Trials.{Trial, givers}
use Rattle.cg_register_text.specs.declared.cause.Cause.{Cause}
use Rattle.cg_register_text.specs.declared.cause.Cause.TheVariants.{Free, Gated, Given, Hint, Stage, Wide}

-- How a netlist came to be gated: its machine, to whose enables its own gating cells are lifted; the turns of the hints; the machine that
-- they leave, with which the plan began; the turns of its stages; and the machine that these leave.
pub record Course : Type 0 where
  pub read : Circuit
  pub lifted : MachineData
  pub hints : List HintTurn
  pub began : MachineData
  pub stages : List Turn
  pub ended : MachineData
  pub width : ℕ

-- it is the course of these hints and of a plan that came to its end
pub record IsCourse (library : List CellData) (settings : Settings) (counts : Option ZeroCounts) (prefix : List ℕ)
    (hints : List HintData) (w : Course) : Type 0 where
  pub lifts : w.lifted ≡ lifted w.read prefix
  pub hinted : hinted_by library settings.width w.lifted hints ≡ Ok (record { machine = w.began; turns = w.hints })
  pub stages : (plan_of library settings counts w.began).turns ≡ w.stages
  pub ended : (plan_of library settings counts w.began).machine ≡ w.ended
  pub whole : (plan_of library settings counts w.began).limit ≡ None
  pub width : settings.width ≡ w.width

-- turns as trials
abbrev pub hint_turn_trial : HintTurn → Trial
hint_turn_trial turn = record { regs = turn.hint.regs; inserted = is_inserted_hint turn.outcome }

abbrev pub turn_trial : Turn → Trial
turn_trial turn = record { regs = turn.stage.regs; inserted = is_inserted turn.outcome }

-- what the causes of its registers are found in, with hints and stages as they were tried
abbrev pub tried_in : Course → Tried
tried_in w =
    record {
      read = w.read;
      began = w.began;
      width = w.width;
      hints = map hint_turn_trial w.hints;
      stages = map turn_trial w.stages;
    }

-- the net that a hint, that a stage adds for its registers on the machine of its turn; an addition that is refused has none
abbrev pub net_of : Result Added AddFault → Option ℕ
net_of (Ok added) = Some added.net
net_of (Err fault) = None

abbrev pub hint_net : HintTurn → Option ℕ
hint_net turn = net_of (hint_answer turn.machine turn.hint)

abbrev pub stage_net : Turn → Option ℕ
stage_net turn = Some (net_by turn.stage.kind turn.machine turn.stage).net

-- the enable that is there in the end, where each of these may give another: the last that was given, or else the first one
abbrev pub left_by : {T : Type 0} → (T → Bool) → (T → Option ℕ) → Option ℕ → List T → Option ℕ
left_by gives net enable [] = enable
left_by gives net enable (x ∷ xs) = left_by gives net (if gives x then net x else enable) xs

-- whether a hint, whether a stage gave a register its enable: it was inserted, and has it
abbrev pub hint_gave : ℕ → HintTurn → Bool
hint_gave r turn = is_inserted_hint turn.outcome && is_in turn.hint.regs r

abbrev pub stage_gave : ℕ → Turn → Bool
stage_gave r turn = is_inserted turn.outcome && is_in turn.stage.regs r

-- the enable that hints, that stages leave a register with this one
abbrev pub after_hints : ℕ → Option ℕ → List HintTurn → Option ℕ
after_hints r enable turns = left_by (λ turn. hint_gave r turn) hint_net enable turns

abbrev pub after_stages : ℕ → Option ℕ → List Turn → Option ℕ
after_stages r enable turns = left_by (λ turn. stage_gave r turn) stage_net enable turns

-- the enable that its hints and stages gave a register
abbrev pub given_enable : Course → ℕ → Option ℕ
given_enable w r = after_stages r (after_hints r None w.hints) w.stages

-- these are the numbers of the things that pass a test, counted from 1
pub record AreNumbers {T : Type 0} (test : T → Bool) (things : List T) (numbers : List ℕ) : Type 0 where
  pub counted : is_in numbers 0 ≡ false
  pub each : (k : ℕ) → is_in numbers (k + 1) ≡ option_map_or test (slice_get things k) false

-- a register has in the end the enable that its hints and stages gave it, and those are told by their numbers
pub record IsGated (w : Course) (r : ℕ) : Type 0 where
  pub enable : ℕ
  pub gave : given_enable w r ≡ Some enable
  pub has : enable_of w.ended r ≡ Some enable
  pub hints : AreNumbers (hint_gave r) w.hints (givers (tried_in w).hints r)
  pub stages : AreNumbers (stage_gave r) w.stages (givers (tried_in w).stages r)

-- it has in the end the enable that it had in the netlist
pub record IsGiven (w : Course) (r : ℕ) : Type 0 where
  pub enable : ℕ
  pub had : enable_of w.lifted r ≡ Some enable
  pub has : enable_of w.ended r ≡ Some enable
  pub apart : (k : ℕ) (turn : Turn) → slice_get w.stages k ≡ Some turn → is_in turn.stage.regs r ≡ false

-- the stage of this number has it, no later one has it, none that has it was inserted, and it has the enable that it had, if any
pub record IsTriedInStage (w : Course) (number r : ℕ) : Type 0 where
  pub counted : 0 < number
  pub turn : Turn
  pub at : slice_get w.stages (number - 1) ≡ Some turn
  pub among : is_in turn.stage.regs r ≡ true
  pub none : (k : ℕ) (other : Turn) → slice_get w.stages k ≡ Some other → is_in other.stage.regs r ≡ true →
      is_inserted other.outcome ≡ false
  pub last : (k : ℕ) (later : Turn) → slice_get w.stages (number + k) ≡ Some later → is_in later.stage.regs r ≡ false
  pub keeps : enable_of w.ended r ≡ enable_of w.lifted r

-- it has no enable, and no stage has it
pub record IsUngated (w : Course) (r : ℕ) : Type 0 where
  pub none : enable_of w.ended r ≡ None
  pub apart : (k : ℕ) (turn : Turn) → slice_get w.stages k ≡ Some turn → is_in turn.stage.regs r ≡ false

-- it has no enable and no stage has it; besides its hold claims have no more leaves than a claim may, the hint of this number has it, no
-- later one has it, and none that has it was inserted
pub record IsTriedInHint (w : Course) (number r : ℕ) : Type 0 where
  pub ungated : IsUngated w r
  pub narrow : hold_width w.began r ≤ w.width
  pub counted : 0 < number
  pub turn : HintTurn
  pub at : slice_get w.hints (number - 1) ≡ Some turn
  pub among : is_in turn.hint.regs r ≡ true
  pub none : (k : ℕ) (other : HintTurn) → slice_get w.hints k ≡ Some other → is_in other.hint.regs r ≡ true →
      is_inserted_hint other.outcome ≡ false
  pub last : (k : ℕ) (later : HintTurn) → slice_get w.hints (number + k) ≡ Some later → is_in later.hint.regs r ≡ false

-- it has no enable and no stage has it; besides its hold claims have this many leaves, more than a claim may: what its next bit and its own
-- bit reach, and so the same whatever literal of its cone they are for
pub record IsTooWide (w : Course) (width r : ℕ) : Type 0 where
  pub ungated : IsUngated w r
  pub measured : hold_width w.began r ≡ width
  pub above : w.width < width
  pub is : (e : Literal) → is_in (input_cone w.began r) e.0 ≡ true → width_of w.began (hold_question e r) ≡ width

-- it has no enable and no stage has it; besides its hold claims have no more leaves than a claim may, no hint has it, and no literal of
-- its cone holds it that can be 0, over all states and inputs
pub record IsFree (w : Course) (r : ℕ) : Type 0 where
  pub ungated : IsUngated w r
  pub narrow : hold_width w.began r ≤ w.width
  pub untried : (k : ℕ) (turn : HintTurn) → slice_get w.hints k ≡ Some turn → is_in turn.hint.regs r ≡ false
  pub none : (e : Literal) → is_in (input_cone w.began r) e.0 ≡ true → Hold w.began e r → CanIdle w.began (e ∷ []) → ⊥

abbrev pub Means : Course → ℕ → Cause → Type 0
Means w r Gated = IsGated w r
Means w r Given = IsGiven w r
Means w r (Stage number) = IsTriedInStage w number r
Means w r (Hint number) = IsTriedInHint w number r
Means w r (Wide width) = IsTooWide w width r
Means w r Free = IsFree w r
