use Rattle.std.proofs.Common.{◌≡◌, false, take}
use Rattle.cg_sat_state.specs.Trail.{lits_of}
use Rattle.cg_sat.specs.inner.Scan.{Finds, rest_found}
use Rattle.cg_sat.proofs.scan.rest_of.Given as goal

abbrev pub invariant-loop-lit : goal.invariant-loop-lit
invariant-loop-lit l = l.more ≡ false → Finds (lits_of l.trail) (take l.lit-index l.clause) l.given (rest_found l.left)
