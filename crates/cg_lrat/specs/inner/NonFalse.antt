-- What of a clause is not false, found literal by literal.
use Rattle.std.specs.Prelude.{if◌then◌else◌}
use Rattle.cg_formula.specs.declared.formula.Lit.{Lit}
use Rattle.cg_lrat.specs.declared.hint.NonFalse.{NonFalse}
use Rattle.cg_lrat.specs.declared.hint.NonFalse.TheVariants.{Nothing, One, Many}
use Rattle.cg_formula.specs.Lits.{same_lit}

-- what is not false once this literal, too, is found not to be
abbrev pub with_lit : NonFalse → Lit → NonFalse
with_lit Nothing lit = One lit
with_lit (One one) lit = if same_lit one lit then One one else Many
with_lit Many lit = Many
