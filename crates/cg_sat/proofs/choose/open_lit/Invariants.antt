use Rattle.std.proofs.Common.{take}
use Rattle.cg_formula.specs.Assignments.{IsFalsified}
use Rattle.cg_sat_state.specs.Trail.{lits_of}
use Rattle.cg_sat.proofs.choose.open_lit.Given as goal

abbrev pub invariant-loop-lit : goal.invariant-loop-lit
invariant-loop-lit l = IsFalsified (lits_of l.trail) (take l.lit-index l.clause)
