-- What was tried for registers, one after another: hints, and behind them stages.
use Rattle.std.specs.Prelude.{ℕ, ◌+◌, Bool, not, ◌&&◌, if◌then◌else◌, List, [], ◌∷◌, map, Option, None, Some}
use Rattle.cg_hint_laws.specs.Trying.{is_inserted as is_inserted_hint}
use Rattle.cg_hint_laws.specs.declared.hint.Hint.{Hint}
use Rattle.cg_hint_laws.specs.declared.outcome.HintOutcome.{HintOutcome}
use Rattle.cg_machine.specs.declared.stage.Stage.{Stage}
use Rattle.cg_net.specs.NetSets.{is_in}
use Rattle.cg_netlist.specs.Moment.{zip_with}
use Rattle.cg_plan_laws.specs.Plan.{is_inserted}
use Rattle.cg_plan_laws.specs.declared.outcome.Outcome.{Outcome}

-- a hint or a stage that was tried: its registers, and whether they got its enable
pub record Trial : Type 0 where
  pub regs : List ℕ
  pub inserted : Bool

abbrev pub stage_trial : Stage × Outcome → Trial
stage_trial tried = record { regs = tried.0.regs; inserted = is_inserted tried.1 }

abbrev pub stage_trials : List (Stage × Outcome) → List Trial
stage_trials stages = map stage_trial stages

abbrev pub hint_trial : Hint → HintOutcome → Trial
hint_trial h outcome = record { regs = h.regs; inserted = is_inserted_hint outcome }

abbrev pub hint_trials : List Hint → List HintOutcome → List Trial
hint_trials hints outcomes = zip_with hint_trial hints outcomes

-- whether a register is among those of a trial; whether it got its enable; whether it got none
abbrev pub has : ℕ → Trial → Bool
has r trial = is_in trial.regs r

abbrev pub gave : ℕ → Trial → Bool
gave r trial = trial.inserted && has r trial

abbrev pub failed : ℕ → Trial → Bool
failed r trial = not trial.inserted && has r trial

-- the numbers of the trials that pass a test, where the first has this number
abbrev pub numbers_from : (Trial → Bool) → ℕ → List Trial → List ℕ
numbers_from test number [] = []
numbers_from test number (trial ∷ trials) =
    if test trial then number ∷ numbers_from test (number + 1) trials else numbers_from test (number + 1) trials

-- the last of some numbers
abbrev pub last_of : List ℕ → Option ℕ
last_of [] = None
last_of (number ∷ []) = Some number
last_of (number ∷ next ∷ numbers) = last_of (next ∷ numbers)

-- the trials that gave a register its enable, and the last of those that have it and gave it none; they are counted from 1
abbrev pub givers : List Trial → ℕ → List ℕ
givers trials r = numbers_from (gave r) 1 trials

abbrev pub last_failed : List Trial → ℕ → Option ℕ
last_failed trials r = last_of (numbers_from (failed r) 1 trials)
