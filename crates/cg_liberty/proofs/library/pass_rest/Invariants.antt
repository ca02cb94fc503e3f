use Rattle.std.proofs.Common.{◌≡◌, length}
use Rattle.cg_liberty.proofs.library.pass_rest.Given as goal

abbrev pub invariant-statements : goal.invariant-statements
invariant-statements l = l.fn.statements.1 ≡ l.statements.1

abbrev pub decreases-statements : goal.decreases-statements
decreases-statements l = length l.statements.0
