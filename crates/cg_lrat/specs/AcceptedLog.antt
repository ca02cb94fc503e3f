-- When a log is accepted or rejected, said of its steps.
use Rattle.std.specs.Prelude.{◌≡◌, ℕ, true, false, List, [], ◌∷◌, ◌++◌, Some, None, ◌⊎◌}
use Rattle.cg_formula.specs.declared.formula.Formula.{Formula}
use Rattle.cg_lrat.specs.declared.log.Step.{Step}
use Rattle.cg_lrat.specs.declared.log.Log.{Log}
use Rattle.cg_lrat.specs.declared.verdict.Verdict.{Verdict}
use Rattle.cg_lrat.specs.declared.verdict.Verdict.TheVariants.{Accepted, Rejected}
use Rattle.cg_lrat.specs.declared.verdict.Why.{Why}
use Rattle.cg_lrat.specs.declared.verdict.Why.TheVariants.{NoEmpty}
use Rattle.cg_lrat.specs.Accepted.{State, first_state, fault_of, state_after, adds_empty}

-- none of these steps is refused and none adds the empty clause; they lead from one state to another
abbrev pub LeadsTo : State → List Step → State → Type 0
LeadsTo state [] end = state ≡ end
LeadsTo state (step ∷ later) end =
    (fault_of state step.body step.id ≡ None) × (adds_empty step.body ≡ false)
    × LeadsTo (state_after state step.body step.id) later end

-- some step adds the empty clause and is not refused, and no step before it is refused
pub record IsAccepted (formula : Formula) (log : Log) : Type 0 where
  pub before : List Step
  pub last : Step
  pub behind : List Step
  pub state : State
  pub whole : log.steps ≡ before ++ last ∷ behind
  pub reached : LeadsTo (first_state formula) before state
  pub taken : fault_of state last.body last.id ≡ None
  pub empty : adds_empty last.body ≡ true

-- the step on this line is refused, and is the first that is; no step before it adds the empty clause
pub record IsRefusedAt (formula : Formula) (log : Log) (line : ℕ) (why : Why) : Type 0 where
  pub before : List Step
  pub step : Step
  pub behind : List Step
  pub state : State
  pub whole : log.steps ≡ before ++ step ∷ behind
  pub reached : LeadsTo (first_state formula) before state
  pub refused : fault_of state step.body step.id ≡ Some why
  pub on_line : step.line ≡ line

-- no step is refused, and none adds the empty clause
pub record IsWithoutEmpty (formula : Formula) (log : Log) (line : ℕ) (why : Why) : Type 0 where
  pub state : State
  pub reached : LeadsTo (first_state formula) log.steps state
  pub nowhere : line ≡ 0
  pub cause : why ≡ NoEmpty

-- the verdict that a log deserves
abbrev pub IsVerdict : Formula → Log → Verdict → Type 0
IsVerdict formula log Accepted = IsAccepted formula log
IsVerdict formula log (Rejected line why) = IsRefusedAt formula log line why ⊎ IsWithoutEmpty formula log line why
