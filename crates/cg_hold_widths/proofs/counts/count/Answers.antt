use Rattle.std.proofs.Common.{refl, arith, w64}
use Rattle.std.specs.Int.{trailing_zeros}
use Rattle.cg_hold_widths.proofs.Counting.{count_room, counted_more, left_less, next_bit}
use Rattle.cg_hold_widths.proofs.counts.count.Goals as goal

pub overflow_add-counts : goal.overflow_add-counts
overflow_add-counts c =
    let rest = c.loop-rest.rest in
    let is = next_bit rest (omega (arith, c.loop-rest-test.true)) (omega (arith, c.loop-rest.auto.rest-fits)) in
    let room = count_room c.args.mask rest (trailing_zeros w64 rest) c.args.counts.now c.loop-rest.counts is c.requires.long c.requires.room c.loop-rest.invariant in
    omega (arith, room)

pub loop-rest-smaller : goal.loop-rest-smaller
loop-rest-smaller c =
    let rest = c.loop-rest.rest in
    let is = next_bit rest (omega (arith, c.loop-rest-test.true)) (omega (arith, c.loop-rest.auto.rest-fits)) in
    left_less c.args.mask rest (trailing_zeros w64 rest) c.args.counts.now c.loop-rest.counts is c.requires.long c.requires.room c.loop-rest.invariant

pub loop-rest-preserved : goal.loop-rest-preserved
loop-rest-preserved c =
    let rest = c.loop-rest.rest in
    let is = next_bit rest (omega (arith, c.loop-rest-test.true)) (omega (arith, c.loop-rest.auto.rest-fits)) in
    counted_more c.args.mask rest (trailing_zeros w64 rest) c.args.counts.now c.loop-rest.counts is c.requires.long c.requires.room c.loop-rest.invariant _ refl
