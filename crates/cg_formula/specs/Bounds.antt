-- The bounds of formulas: which variables their clauses may name.
use Rattle.std.specs.Prelude.{ℕ, ◌≤◌}
use Rattle.std.specs.List.{AllByRecursion}
use Rattle.cg_limit.specs.declared.TheConstants.{MOST_VARIABLES}
use Rattle.cg_formula.specs.declared.formula.Lit.{Lit}
use Rattle.cg_formula.specs.declared.formula.Clause.{Clause}
use Rattle.cg_formula.specs.declared.formula.Formula.{Formula}

-- the literal's variable is one of 1 to the greatest
pub record IsLit (greatest : ℕ) (lit : Lit) : Type 0 where
  pub from_one : 1 ≤ lit.variable
  pub within : lit.variable ≤ greatest

abbrev pub IsClause : ℕ → Clause → Type 0
IsClause greatest clause = AllByRecursion (IsLit greatest) clause.lits

-- the formula has at most 16,777,216 variables, and its clauses name no others
pub record IsFormula (formula : Formula) : Type 0 where
  pub few : formula.variables ≤ MOST_VARIABLES
  pub clauses : AllByRecursion (IsClause formula.variables) formula.clauses
