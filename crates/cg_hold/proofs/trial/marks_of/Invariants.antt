use Rattle.cg_hold.proofs.Marked.{MarkedTo}
use Rattle.cg_hold.proofs.trial.marks_of.Given as goal

abbrev pub invariant-loop-place : goal.invariant-loop-place
invariant-loop-place l = MarkedTo l.look.search.now.machine.now l.look.reg l.look.literals.now l.marks.items l.place
