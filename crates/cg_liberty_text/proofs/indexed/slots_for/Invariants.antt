use Rattle.std.proofs.Common.{length}
use Rattle.cg_liberty_text.proofs.indexed.slots_for.Given as goal

abbrev pub decreases-texts : goal.decreases-texts
decreases-texts l = length l.left
