use Rattle.std.proofs.Common.{◌≡◌, IsTrue, drop, length}
use Rattle.cg_cell.specs.Expr.{all_over, values_of}
use Rattle.cg_cell.specs.Gates.{all_of, any_of, exclusive_or, odd_of}
use Rattle.cg_cell.proofs.expr.+value.Given as goal

abbrev pub invariant-all_one-operands : goal.invariant-all_one-operands
invariant-all_one-operands l = record {
  over : IsTrue (all_over (length l.bits) (drop l.operand-index l.operands));
  value : all_of (values_of l.bits (drop l.operand-index l.operands)) ≡ all_of (values_of l.bits l.operands);
}

abbrev pub invariant-any_one-operands : goal.invariant-any_one-operands
invariant-any_one-operands l = record {
  over : IsTrue (all_over (length l.bits) (drop l.operand-index l.operands));
  value : any_of (values_of l.bits (drop l.operand-index l.operands)) ≡ any_of (values_of l.bits l.operands);
}

abbrev pub invariant-odd_one-operands : goal.invariant-odd_one-operands
invariant-odd_one-operands l = record {
  over : IsTrue (all_over (length l.bits) (drop l.operand-index l.operands));
  value : exclusive_or l.odd (odd_of (values_of l.bits (drop l.operand-index l.operands))) ≡ odd_of (values_of l.bits l.operands);
}
