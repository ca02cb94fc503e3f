use Rattle.cg_hold.specs.inner.Looking.{AreMarked}
use Rattle.cg_hold.proofs.trial.Trier.mark_by_rounds.Given as goal

abbrev pub invariant-loop : goal.invariant-loop
invariant-loop l = AreMarked l.look.search.now.machine.now l.look.reg l.look.literals.now l.marks
