use Rattle.std.proofs.Common.{◌≡◌, true, take}
use Rattle.std.specs.List.{list_all}
use Rattle.cg_formula.specs.Satisfiable.{clause_bit}
use Rattle.cg_sat.proofs.choose.unsatisfied.Given as goal

abbrev pub invariant-loop-place : goal.invariant-loop-place
invariant-loop-place l = list_all (clause_bit l.bits) (take l.place l.formula.clauses) ≡ true
