use Rattle.cg_edge.proofs.Added.{all_are_marked}
use Rattle.cg_edge.proofs.readers.mark_all.Goals as goal

pub returns-clause-told : goal.returns-clause-told
returns-clause-told c = all_are_marked c.args.places.now c.loop-place.place-index c.loop-place.marks c.loop-place-test.false c.loop-place.invariant.1
