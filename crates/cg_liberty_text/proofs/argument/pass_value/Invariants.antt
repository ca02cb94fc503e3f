use Rattle.std.proofs.Common.{◌≡◌, length}
use Rattle.cg_liberty_text.specs.Argument.{behind_value}
use Rattle.cg_liberty_text.proofs.argument.pass_value.Given as goal

abbrev pub invariant-value : goal.invariant-value
invariant-value l = record {
  behind : behind_value l.fn.tokens.0 ≡ behind_value l.tokens.0;
  end : l.tokens.1 ≡ l.fn.tokens.1;
}

abbrev pub decreases-value : goal.decreases-value
decreases-value l = length l.tokens.0
