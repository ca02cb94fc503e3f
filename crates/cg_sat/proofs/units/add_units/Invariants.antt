use Rattle.std.proofs.Common.{◌≡◌}
use Rattle.cg_formula.specs.declared.formula.Formula.{Formula}
use Rattle.cg_sat.specs.inner.Search.{IsSearch, HasPrefix}
use Rattle.cg_sat.proofs.units.add_units.Given as goal

abbrev pub invariant-loop-at : goal.invariant-loop-at
invariant-loop-at l = record {
  formula : l.draft.formula ≡ l.fn.draft.formula;
  prefix : (formula : Formula) → HasPrefix formula l.fn.draft.clauses → HasPrefix formula l.draft.clauses;
  search : IsSearch l.problem.count l.draft.clauses l.trail;
}
