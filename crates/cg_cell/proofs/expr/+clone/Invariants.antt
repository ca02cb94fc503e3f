use Rattle.std.proofs.Common.{◌≡◌, take}
use Rattle.cg_cell.specs.Expr.{terms_of}
use Rattle.cg_cell.proofs.expr.+clone.Given as goal

abbrev pub invariant-clone_all-operands : goal.invariant-clone_all-operands
invariant-clone_all-operands l = terms_of l.copies.items ≡ terms_of (take l.operand-index l.operands)
