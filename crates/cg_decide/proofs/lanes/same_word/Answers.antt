use Rattle.std.specs.Prelude.{true, refl}
use Rattle.std.proofs.Common.{sym, ◌∙◌}
use Rattle.cg_decide.proofs.Assigned.{constant_lane}
use Rattle.cg_decide.proofs.lanes.same_word.Goals as goal

pub returns-then-number-eq1 : goal.returns-then-number-eq1
returns-then-number-eq1 c = λ i below. constant_lane true i below ∙ sym (rw c.if-number-eq1.true refl)
