-- What the program answers, beside what the definition says.
use Rattle.std.specs.Prelude.{List, Option, None, Some, Result, Ok, Err}
use Rattle.cg_cell.specs.Expr.{term_of}
use Rattle.cg_cell.specs.Term.{Term}
use Rattle.cg_liberty_expression.specs.Reading.{Expects, Has, Mode, Pending}
use Rattle.cg_cell.specs.declared.expr.Expr.{Expr}
use Rattle.cg_liberty_expression.specs.declared.fault.ExprFault.{ExprFault}

-- where a reading stands
abbrev pub mode_of : Option Expr → List Pending → Mode
mode_of None pending = Expects pending
mode_of (Some operand) pending = Has (term_of operand) pending

-- whether a text stands for an expression, or its first fault; which expression does not count
abbrev pub settled : Result Term ExprFault → Result (Unit {0}) ExprFault
settled (Ok term) = Ok tt
settled (Err fault) = Err fault
