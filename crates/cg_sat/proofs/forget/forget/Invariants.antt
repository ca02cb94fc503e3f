use Rattle.std.proofs.Common.{◌≡◌}
use Rattle.cg_sat.specs.inner.Search.{IsSearch, HasPrefix}
use Rattle.cg_sat.proofs.forget.forget.Given as goal

abbrev pub invariant-found : goal.invariant-found
invariant-found l = record {
  formula : l.draft.formula ≡ l.fn.draft.formula;
  prefix : HasPrefix l.problem.formula.now l.draft.clauses;
  search : IsSearch l.problem.count l.draft.clauses l.trail;
}
