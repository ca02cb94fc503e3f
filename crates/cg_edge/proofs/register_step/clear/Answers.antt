use Rattle.std.proofs.Common.{length, replicate, false, sym, arith}
use Rattle.std.proofs.lemmas.List.{length-replicate}
use Rattle.cg_edge.proofs.Written.{replicate_at, written_all, written_more, written_none}
use Rattle.cg_edge.proofs.register_step.clear.Goals as goal

pub loop-place-init : goal.loop-place-init
loop-place-init c = written_none c.args.bits.now (replicate (length c.args.bits.now) false) (sym (length-replicate (length c.args.bits.now) false))

pub loop-place-preserved : goal.loop-place-preserved
loop-place-preserved c =
    written_more c.loop-place.place c.args.bits.now (replicate (length c.args.bits.now) false) c.loop-place.bits false c.loop-place.invariant
    (replicate_at (length c.args.bits.now) c.loop-place.place (omega (arith, c.loop-place-test.true)))

pub returns : goal.returns
returns c = written_all c.loop-place.place c.args.bits.now (replicate (length c.args.bits.now) false) c.loop-place.bits c.loop-place.invariant (let long = length-replicate (length c.args.bits.now) false in omega (arith, long, c.loop-place-test.false))
