use Rattle.std.proofs.Common.{◌∙◌}
use Rattle.cg_cell.proofs.Terms.{says_term}
use Rattle.cg_cell.proofs.expr.Expr.names.Goals as goal

pub returns-clause-term : goal.returns-clause-term
returns-clause-term c = c.holds.ensures ∙ (says_term c.args.self.now).names c.args.k
