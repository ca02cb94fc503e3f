use Rattle.std.proofs.Common.{◌≡◌, length}
use Rattle.cg_cell.specs.Expr.{term_of}
use Rattle.cg_liberty_expression.specs.Reading.{inv_end}
use Rattle.cg_liberty_expression.proofs.pending.end_inversions.Given as goal

abbrev pub invariant-inversions : goal.invariant-inversions
invariant-inversions l = inv_end (term_of l.operand) l.stack ≡ inv_end (term_of l.fn.operand) l.fn.stack

abbrev pub decreases-inversions : goal.decreases-inversions
decreases-inversions l = length l.stack
