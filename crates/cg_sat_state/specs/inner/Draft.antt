-- The steps of a log on its way, and the clauses that are live behind them.
use Rattle.std.specs.Prelude.{List}
use Rattle.std.specs.List.{AllByRecursion}
use Rattle.cg_formula.specs.declared.formula.Formula.{Formula}
use Rattle.cg_lrat.specs.declared.log.Step.{Step}
use Rattle.cg_lrat.specs.Accepted.{first_state}
use Rattle.cg_lrat.specs.AcceptedLog.{LeadsTo}
use Rattle.cg_lrat.specs.Bounds.{AreNumbered, IsStep}
use Rattle.cg_sat_state.specs.Store.{Store, state_of}

-- the steps lead to these clauses, and are those of a log
pub record IsDraft (formula : Formula) (steps : List Step) (clauses : Store) : Type 0 where
  pub leads : LeadsTo (first_state formula) steps (state_of clauses)
  pub fit : AllByRecursion IsStep steps
  pub numbered : AreNumbered steps
