use Rattle.std.proofs.Common.{◌≡◌, true, take, length}
use Rattle.cg_formula.specs.declared.formula.Lit.{Lit}
use Rattle.cg_formula.specs.Lits.{is_in}
use Rattle.cg_sat.specs.inner.Learn.{is_marked}
use Rattle.cg_sat.proofs.learn.mark.Given as goal

abbrev pub invariant-loop-lit : goal.invariant-loop-lit
invariant-loop-lit l = record {
  marked : (lit : Lit) → is_in lit (take l.lit-index l.clause) ≡ true → is_marked l.marks.items lit ≡ true;
  stay : (lit : Lit) → is_marked l.fn.marks.items lit ≡ true → is_marked l.marks.items lit ≡ true;
  long : length l.marks.items ≡ length l.fn.marks.items;
}
