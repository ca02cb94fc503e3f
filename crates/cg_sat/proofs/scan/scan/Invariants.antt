use Rattle.std.proofs.Common.{◌≡◌, take}
use Rattle.cg_formula.specs.declared.formula.Lit.{Lit}
use Rattle.cg_sat.specs.declared.scan.Found.TheVariants.{Another}
use Rattle.cg_sat_state.specs.Trail.{lits_of}
use Rattle.cg_sat.specs.inner.Scan.{Finds}
use Rattle.cg_sat.proofs.scan.scan.Given as goal

abbrev pub invariant-loop-lit : goal.invariant-loop-lit
invariant-loop-lit l = record {
  finds : Finds (lits_of l.trail) (take l.lit-index l.clause) l.given l.found;
  early : (other : Lit) → l.found ≡ Another other → ⊥;
}
