use Rattle.std.proofs.Common.{arith}
use Rattle.cg_edge.proofs.Bits.{all_more, bits_long}
use Rattle.cg_edge.proofs.marks.Marks.all.Goals as goal

pub loop-place-init : goal.loop-place-init
loop-place-init c = (bits_long c.in_ok-vec.field-0.items c.args.count, λ p low. absurd (omega arith))

pub loop-place-preserved : goal.loop-place-preserved
loop-place-preserved c = all_more c.loop-place.marks c.add.new.self c.loop-place.place c.args.count c.add.ensures c.loop-place.invariant.0 (omega (arith, c.loop-place-test.true)) c.loop-place.invariant.1
