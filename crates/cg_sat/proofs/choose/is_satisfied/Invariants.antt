use Rattle.std.proofs.Common.{◌≡◌, false, take}
use Rattle.std.specs.List.{list_any}
use Rattle.cg_formula.specs.Satisfiable.{lit_bit}
use Rattle.cg_sat.proofs.choose.is_satisfied.Given as goal

abbrev pub invariant-loop-lit : goal.invariant-loop-lit
invariant-loop-lit l = list_any (lit_bit l.bits) (take l.lit-index l.clause) ≡ false
