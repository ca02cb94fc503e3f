use Rattle.std.proofs.Common.{◌∙◌}
use Rattle.cg_cell.proofs.Terms.{says_term}
use Rattle.cg_cell.proofs.expr.Expr.value.Goals as goal

pub returns-clause-term : goal.returns-clause-term
returns-clause-term c = c.bit.ensures ∙ (says_term c.args.self.now).value c.args.bits.now
