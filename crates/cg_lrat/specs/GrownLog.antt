-- Logs in the making: clauses numbered from 1 on without a gap, those of a formula first, and none deleted.
use Rattle.std.specs.Prelude.{zero, suc, List, None, length, map}
use Rattle.std.specs.List.{slice_get, AllByRecursion}
use Rattle.cg_formula.specs.declared.formula.Lit.{Lit}
use Rattle.cg_formula.specs.declared.formula.Formula.{Formula}
use Rattle.cg_lrat.specs.declared.log.Step.{Step}
use Rattle.cg_lrat.specs.Accepted.{Live, State, first_state}
use Rattle.cg_lrat.specs.AcceptedLog.{LeadsTo}
use Rattle.cg_lrat.specs.Bounds.{IsStep}

-- the live clauses where these were given: the first has the id 1
abbrev pub live_of : List (List Lit) → Live
live_of clauses zero = None
live_of clauses (suc k) = slice_get clauses k

abbrev pub state_of : List (List Lit) → State
state_of clauses = record { live = live_of clauses; greatest = length clauses }

-- the clauses of a formula
abbrev pub clauses_of : Formula → List (List Lit)
clauses_of formula = map (λ clause. clause.lits) formula.clauses

-- these steps can stand in a log, and lead from the formula to these clauses
pub record IsGrownTo (formula : Formula) (steps : List Step) (clauses : List (List Lit)) : Type 0 where
  pub leads : LeadsTo (first_state formula) steps (state_of clauses)
  pub bounds : AllByRecursion IsStep steps
