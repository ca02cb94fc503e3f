-- What an answer says of the formula.
use Rattle.cg_formula.specs.declared.formula.Formula.{Formula}
use Rattle.cg_lrat.specs.declared.verdict.Verdict.TheVariants.{Accepted}
use Rattle.cg_lrat.proofs.Deserved.{deserves_only}
use Rattle.cg_lrat.proofs.Sound.{accepted_unsatisfiable}
use Rattle.cg_sat.specs.declared.search.Solved.{Solved}
use Rattle.cg_sat.specs.declared.search.Solved.TheVariants.{Sat, Unsat}
use Rattle.cg_sat.specs.Answer.{IsShown, IsExact}

pub exact : (formula : Formula) (solved : Solved) → IsShown formula solved → IsExact formula solved
exact formula (Sat bits) h = (bits.items, h)
exact formula (Unsat log) h = accepted_unsatisfiable formula log (deserves_only formula log Accepted h)
