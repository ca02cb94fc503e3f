use Rattle.std.proofs.Common.{◌≡◌, length}
use Rattle.cg_liberty_text.specs.Argument.{behind_arguments}
use Rattle.cg_liberty_text.specs.declared.lexeme.Kind.TheVariants.{OpenParen}
use Rattle.cg_liberty_text.proofs.argument.pass_arguments.Given as goal

abbrev pub invariant-arguments : goal.invariant-arguments
invariant-arguments l = record {
  behind : behind_arguments l.fn.tokens.1 OpenParen l.fn.tokens.0 ≡ behind_arguments l.fn.tokens.1 l.before l.tokens.0;
  end : l.tokens.1 ≡ l.fn.tokens.1;
}

abbrev pub decreases-arguments : goal.decreases-arguments
decreases-arguments l = length l.tokens.0
