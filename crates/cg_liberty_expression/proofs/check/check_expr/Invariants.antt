use Rattle.std.proofs.Common.{◌≡◌, length, Ok}
use Rattle.cg_liberty_expression.specs.Reading.{read_on, read_text}
use Rattle.cg_liberty_expression.specs.Reads.{mode_of, settled}
use Rattle.cg_liberty_expression.proofs.check.check_expr.Given as goal

abbrev pub invariant-tokens : goal.invariant-tokens
invariant-tokens g l = settled (read_on (g.N.Names.names l.names) (length l.text) (Ok (mode_of l.reading.operand l.reading.stack)) l.tokens) ≡ settled (read_text (g.N.Names.names l.names) l.text)

abbrev pub decreases-tokens : goal.decreases-tokens
decreases-tokens g l = length l.tokens
