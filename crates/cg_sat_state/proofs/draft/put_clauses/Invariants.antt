use Rattle.std.proofs.Common.{◌≡◌, Some, take, map}
use Rattle.cg_formula.specs.declared.formula.Clause.{Clause}
use Rattle.cg_sat_state.proofs.draft.put_clauses.Given as goal

abbrev pub invariant-loop-place : goal.invariant-loop-place
invariant-loop-place l = l.clauses ≡ map (λ (clause : Clause). Some clause.lits) (take l.place l.formula.clauses)
