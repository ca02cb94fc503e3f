use Rattle.cg_hold.specs.inner.Looking.{AreMarked}
use Rattle.cg_hold.proofs.trial.mark.Given as goal

abbrev pub invariant-loop-place : goal.invariant-loop-place
invariant-loop-place l = AreMarked l.look.search.now.machine.now l.look.reg l.look.literals.now l.marks
