-- What a decision says of a goal, which is a literal of an and-inverter list.
use Rattle.std.specs.Prelude.{◌≡◌, ℕ, Bool, false, List, length}
use Rattle.cg_cell.specs.Domain.{Seen}
use Rattle.cg_aig.specs.Aig.{aig_ops}
use Rattle.cg_formula.specs.Bounds.{IsFormula}
use Rattle.cg_cnf.specs.Clauses.{IsOneAt, formula_of}
use Rattle.cg_lrat.specs.AcceptedLog.{IsAccepted}
use Rattle.cg_lrat.specs.Bounds.{AreNumbered, IsLog}
use Rattle.cg_decide.specs.declared.decision.Decision.{Decision}
use Rattle.cg_decide.specs.declared.decision.Decision.TheVariants.{Never, Sometimes}

-- the goal is 0 for all leaf bits
abbrev pub IsNeverOne : Seen → ℕ → Type 0
IsNeverOne s goal = (bits : List Bool) → length bits ≡ s.number → aig_ops.bit s bits goal ≡ false

-- it is so exactly where the decision is Never; else it is 1 at the leaf bits that are shown
abbrev pub IsExact : Seen → ℕ → Decision → Type 0
IsExact s goal (Never formula log) = IsNeverOne s goal
IsExact s goal (Sometimes bits) = IsOneAt s goal bits.items

-- the formula is that of the goal, and the log proves it unsatisfiable
abbrev pub IsProved : Seen → ℕ → Decision → Type 0
IsProved s goal (Never formula log) = (formula ≡ formula_of s goal) × IsAccepted formula log
IsProved s goal (Sometimes bits) = Unit {0}

-- formula and log can be written: their variables and ids are within the bounds, and the log's lines are counted from 1
abbrev pub IsWritableDecision : Decision → Type 0
IsWritableDecision (Never formula log) = IsFormula formula × IsLog log × AreNumbered log.steps
IsWritableDecision (Sometimes bits) = Unit {0}
