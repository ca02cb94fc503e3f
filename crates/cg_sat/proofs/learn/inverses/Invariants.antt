use Rattle.std.proofs.Common.{◌≡◌, take, map}
use Rattle.cg_formula.specs.Lits.{inverse}
use Rattle.cg_sat.proofs.learn.inverses.Given as goal

abbrev pub invariant-loop-lit : goal.invariant-loop-lit
invariant-loop-lit l = l.inverted.items ≡ map inverse (take l.lit-index l.lits)
