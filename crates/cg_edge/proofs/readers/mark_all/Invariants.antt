use Rattle.cg_edge.specs.inner.Keeping.{MarksMore}
use Rattle.cg_edge.proofs.Added.{AreTold}
use Rattle.cg_edge.proofs.readers.mark_all.Given as goal

abbrev pub invariant-loop-place : goal.invariant-loop-place
invariant-loop-place l = MarksMore l.fn.marks l.marks × AreTold l.places l.place-index l.marks
