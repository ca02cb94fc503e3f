use Rattle.cg_sat.specs.inner.Search.{Grows}
use Rattle.cg_sat.proofs.search.begin.Given as goal

abbrev pub invariant-loop-place : goal.invariant-loop-place
invariant-loop-place l = Grows l.count l.clauses l.fn.trail l.trail
