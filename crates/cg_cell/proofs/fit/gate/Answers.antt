use Rattle.std.proofs.Common.{ℕ, sym, ◌∙◌, subst, IfSome, IsTrue}
use Rattle.cg_cell.specs.Expr.{is_over}
use Rattle.cg_cell.proofs.Functions.{logic_variables}
use Rattle.cg_cell.proofs.fit.gate.Goals as goal

pub returns-then-inputs-clause-over : goal.returns-then-inputs-clause-over
returns-then-inputs-clause-over c =
    subst (λ (n : ℕ). IfSome c.function.result (λ f. IsTrue (is_over n f.now)))
    (logic_variables c.args.cell.now c.kind.result c.args.inputs c.kind.ensures c.in-Logic.is (sym c.inputs.ensures ∙ c.if-inputs.true)) c.function.ensures.over
