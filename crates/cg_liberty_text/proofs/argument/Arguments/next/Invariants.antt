use Rattle.std.proofs.Common.{◌≡◌, length}
use Rattle.cg_liberty_text.specs.Argument.{argument_texts}
use Rattle.cg_liberty_text.proofs.argument.Arguments.next.Given as goal

abbrev pub invariant-texts : goal.invariant-texts
invariant-texts l = argument_texts l.self-inside.tokens.0 ≡ l.fn.self

abbrev pub decreases-texts : goal.decreases-texts
decreases-texts l = length l.self-inside.tokens.0
