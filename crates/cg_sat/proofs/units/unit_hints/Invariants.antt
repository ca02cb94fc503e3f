use Rattle.std.proofs.Common.{[], ◌∷◌, take}
use Rattle.cg_formula.specs.Lits.{inverse}
use Rattle.cg_formula.specs.Assignments.{IsFalsified}
use Rattle.cg_sat_state.specs.Store.{live_of}
use Rattle.cg_sat_state.specs.Trail.{lits_of}
use Rattle.cg_sat.specs.inner.Derive.{Follows}
use Rattle.cg_sat.proofs.units.unit_hints.Given as goal

abbrev pub invariant-loop-other : goal.invariant-loop-other
invariant-loop-other l = record {
  follows : Follows (live_of l.clauses) (inverse l.fn.lit ∷ []) l.hints.items (lits_of l.trues);
  off : IsFalsified (lits_of l.trues) (take l.other-index l.clause);
}
