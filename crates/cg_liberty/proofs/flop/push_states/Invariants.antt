use Rattle.std.proofs.Common.{◌≡◌, ◌++◌, length}
use Rattle.cg_liberty.specs.Kinds.{state_names}
use Rattle.cg_liberty.proofs.flop.push_states.Given as goal

abbrev pub invariant-texts : goal.invariant-texts
invariant-texts l = l.names ++ state_names l.left ≡ l.fn.names ++ state_names l.texts

abbrev pub decreases-texts : goal.decreases-texts
decreases-texts l = length l.left
