use Rattle.std.proofs.Common.{IsTrue, drop, length, map, take}
use Rattle.std.specs.Prelude.{option_map}
use Rattle.cg_cell.specs.Expr.{all_over, terms_of}
use Rattle.cg_cell.proofs.Evals.{Going}
use Rattle.cg_cell.proofs.+eval.Given as goal

abbrev pub invariant-eval::eval_all-operands : goal.invariant-eval::eval_all-operands
invariant-eval::eval_all-operands g l = record {
  over : IsTrue (all_over (length l.inputs) (drop l.operand-index l.operands));
  going : Going g.D.Domain.ops (map g.D.Domain.number l.inputs) l.operator (terms_of (take l.operand-index l.operands))
      (g.D.Domain.seen l.fn.domain) (g.D.Domain.seen l.domain) (option_map g.D.Domain.number l.answer);
}
