use Rattle.std.proofs.Common.{◌<◌, ◌*◌, length, arith}
use Rattle.cg_edge.proofs.Bits.{found_in, none_left}
use Rattle.cg_edge.proofs.marks.Marks.next_from.Goals as goal

pub overflow_mul-result : goal.overflow_mul-result
overflow_mul-result c =
    let s = c.self.inside in
    let below : c.loop-k.k < length s.words.items = omega (arith, c.loop-k-test.true, c.len-k-end.ensures, s.words.ok.0) in
    let got = found_in s.words.items s.count c.args.self.now c.self.view_is c.self.invariant (64 * c.args.word) c.loop-k.k c.index.result.now c.in-Some.place below c.index.ensures c.in-Some.ensures (omega (arith, c.loop-k.auto.k)) c.loop-k.invariant in
    omega (arith, got.1, c.self.invariant.fits)

pub overflow_add-result : goal.overflow_add-result
overflow_add-result c =
    let s = c.self.inside in
    let below : c.loop-k.k < length s.words.items = omega (arith, c.loop-k-test.true, c.len-k-end.ensures, s.words.ok.0) in
    let got = found_in s.words.items s.count c.args.self.now c.self.view_is c.self.invariant (64 * c.args.word) c.loop-k.k c.index.result.now c.in-Some.place below c.index.ensures c.in-Some.ensures (omega (arith, c.loop-k.auto.k)) c.loop-k.invariant in
    omega (arith, got.1, c.self.invariant.fits)

pub returns-in-Some : goal.returns-in-Some
returns-in-Some c =
    let s = c.self.inside in
    let below : c.loop-k.k < length s.words.items = omega (arith, c.loop-k-test.true, c.len-k-end.ensures, s.words.ok.0) in
    let got = found_in s.words.items s.count c.args.self.now c.self.view_is c.self.invariant (64 * c.args.word) c.loop-k.k c.index.result.now c.in-Some.place below c.index.ensures c.in-Some.ensures (omega (arith, c.loop-k.auto.k)) c.loop-k.invariant in
    got.0

pub returns : goal.returns
returns c = none_left c.self.inside.words.items c.self.inside.count c.args.self.now c.self.view_is c.self.invariant (64 * c.args.word) c.loop-k.k (omega (arith, c.loop-k-test.false, c.len-k-end.ensures, c.self.inside.words.ok.0)) c.loop-k.invariant
