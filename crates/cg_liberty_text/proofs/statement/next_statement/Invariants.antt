use Rattle.std.proofs.Common.{◌≡◌, length}
use Rattle.cg_liberty_text.specs.Statement.{statements}
use Rattle.cg_liberty_text.specs.Statement.Phase.{Start}
use Rattle.cg_liberty_text.proofs.statement.next_statement.Given as goal

abbrev pub invariant-lone : goal.invariant-lone
invariant-lone l = record {
  left : statements l.fn.tokens.1 l.depth Start l.fn.tokens.0 ≡ statements l.fn.tokens.1 l.depth Start l.tokens.0;
  end : l.tokens.1 ≡ l.fn.tokens.1;
}

abbrev pub decreases-lone : goal.decreases-lone
decreases-lone l = length l.tokens.0
