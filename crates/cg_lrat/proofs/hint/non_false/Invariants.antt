use Rattle.std.proofs.Common.{◌≡◌, drop}
use Rattle.cg_lrat.specs.declared.hint.NonFalse.TheVariants.{Nothing}
use Rattle.cg_lrat.specs.Accepted.{non_false_lits}
use Rattle.cg_lrat.proofs.NonFalseFound.{non_false_on}
use Rattle.cg_lrat.proofs.hint.non_false.Given as goal

abbrev pub invariant-loop-lit : goal.invariant-loop-lit
invariant-loop-lit l =
    non_false_on l.found (non_false_lits l.assignment (drop l.lit-index l.clause)) ≡ non_false_on Nothing (non_false_lits l.assignment l.clause)
