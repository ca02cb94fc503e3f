use Rattle.std.proofs.Common.{◌≡◌, map, take}
use Rattle.cg_formula.specs.Lits.{inverse}
use Rattle.cg_lrat.proofs.progress.take_as_false.Given as goal

abbrev pub invariant-loop-lit : goal.invariant-loop-lit
invariant-loop-lit l = l.assignment ≡ map inverse (take l.lit-index l.clause)
