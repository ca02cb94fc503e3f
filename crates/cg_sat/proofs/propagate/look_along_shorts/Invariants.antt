use Rattle.cg_sat.specs.inner.Search.{Grows}
use Rattle.cg_sat.proofs.propagate.look_along_shorts.Given as goal

abbrev pub invariant-loop-step : goal.invariant-loop-step
invariant-loop-step l = Grows l.count l.clauses l.fn.trail l.trail
