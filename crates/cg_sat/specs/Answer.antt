-- What an answer of the solver says of the formula.
use Rattle.cg_formula.specs.declared.formula.Formula.{Formula}
use Rattle.cg_formula.specs.Satisfiable.{Satisfies, IsSatisfiable, IsUnsatisfiable}
use Rattle.cg_lrat.specs.AcceptedLog.{IsAccepted}
use Rattle.cg_lrat.specs.Bounds.{AreNumbered, IsLog}
use Rattle.cg_sat.specs.declared.search.Solved.{Solved}
use Rattle.cg_sat.specs.declared.search.Solved.TheVariants.{Sat, Unsat}

-- the formula is satisfiable exactly where the answer is bits
abbrev pub IsExact : Formula → Solved → Type 0
IsExact formula (Sat bits) = IsSatisfiable formula
IsExact formula (Unsat log) = IsUnsatisfiable formula

-- the bits satisfy the formula, or the log is accepted
abbrev pub IsShown : Formula → Solved → Type 0
IsShown formula (Sat bits) = Satisfies bits.items formula
IsShown formula (Unsat log) = IsAccepted formula log

-- the log can be written: its ids and variables are within the bounds, and its lines are counted from 1
abbrev pub IsWritableAnswer : Solved → Type 0
IsWritableAnswer (Sat bits) = Unit {0}
IsWritableAnswer (Unsat log) = IsLog log × AreNumbered log.steps
