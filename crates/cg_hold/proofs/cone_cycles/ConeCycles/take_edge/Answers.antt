use Rattle.cg_hold.proofs.cone_cycles.ConeCycles.take_edge.Goals as goal

pub loop-place-preserved : goal.loop-place-preserved
loop-place-preserved c = λ m fit. c.put_leaf.ensures m (c.loop-place.invariant m fit)
