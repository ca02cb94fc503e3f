-- The bounds of logs: which variables and ids their steps may name, and on which lines they stand.
use Rattle.std.specs.Prelude.{◌≡◌, ℕ, ◌+◌, ◌-◌, ◌^◌, ◌<◌, ◌≤◌, List, Some}
use Rattle.std.specs.List.{AllByRecursion, slice_get}
use Rattle.cg_formula.specs.Bounds.{IsClause}
use Rattle.cg_lrat.specs.declared.log.Body.{Body}
use Rattle.cg_lrat.specs.declared.log.Body.TheVariants.{Add, Delete}
use Rattle.cg_lrat.specs.declared.log.Step.{Step}
use Rattle.cg_lrat.specs.declared.log.Log.{Log}

-- an id of a clause is a number from 1 to 2 ^ 63 - 1
pub record IsId (id : ℕ) : Type 0 where
  pub from_one : 1 ≤ id
  pub within : id < 2 ^ 63

-- the variables of a log are the numbers from 1 to 2 ^ 31 - 1
abbrev pub IsBody : Body → Type 0
IsBody (Add clause hints) = IsClause (2 ^ 31 - 1) clause × AllByRecursion IsId hints
IsBody (Delete ids) = AllByRecursion IsId ids

pub record IsStep (step : Step) : Type 0 where
  pub id : IsId step.id
  pub body : IsBody step.body

abbrev pub IsLog : Log → Type 0
IsLog log = AllByRecursion IsStep log.steps

-- the steps stand on the lines from 1 on
abbrev pub AreNumbered : List Step → Type 0
AreNumbered steps = (k : ℕ) (step : Step) → slice_get steps k ≡ Some step → step.line ≡ k + 1
