use Rattle.std.proofs.Common.{◌≡◌, drop}
use Rattle.cg_cell.specs.Expr.{any_names}
use Rattle.cg_cell.proofs.expr.+names.Given as goal

abbrev pub invariant-any_operand_names-operands : goal.invariant-any_operand_names-operands
invariant-any_operand_names-operands l = any_names l.k (drop l.operand-index l.operands) ≡ any_names l.k l.operands
