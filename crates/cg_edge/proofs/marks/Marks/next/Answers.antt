use Rattle.std.proofs.Common.{◌/◌, ◌<◌, length, arith, rules}
use Rattle.cg_edge.proofs.Bits.{found_further, next_further, next_past}
use Rattle.cg_edge.proofs.marks.Marks.next.Goals as goal

pub returns-then-first-len : goal.returns-then-first-len
returns-then-first-len c = next_past c.self.inside.words.items c.self.inside.count c.args.self.now c.self.view_is c.self.invariant c.args.from (omega (arith, c.if-first-len.true, c.len.ensures, c.self.inside.words.ok.0))

pub overflow_add-result : goal.overflow_add-result
overflow_add-result c =
    let s = c.self.inside in
    let below : c.args.from / 64 < length s.words.items = omega (arith, c.if-first-len.false, c.len.ensures, s.words.ok.0) in
    let got = found_further s.words.items s.count c.args.self.now c.self.view_is c.self.invariant c.args.from c.index.result.now below c.index.ensures c.in-Some.further (search rules) c.in-Some.ensures in
    omega (arith, got.1, c.self.invariant.fits)

pub returns-in-Some : goal.returns-in-Some
returns-in-Some c =
    let s = c.self.inside in
    let below : c.args.from / 64 < length s.words.items = omega (arith, c.if-first-len.false, c.len.ensures, s.words.ok.0) in
    let got = found_further s.words.items s.count c.args.self.now c.self.view_is c.self.invariant c.args.from c.index.result.now below c.index.ensures c.in-Some.further (search rules) c.in-Some.ensures in
    got.0

pub returns-in-None : goal.returns-in-None
returns-in-None c =
    let s = c.self.inside in
    let below : c.args.from / 64 < length s.words.items = omega (arith, c.if-first-len.false, c.len.ensures, s.words.ok.0) in
    next_further s.words.items s.count c.args.self.now c.self.view_is c.self.invariant c.args.from c.index.result.now below c.index.ensures c.in-None.ensures c.next_from.result c.next_from.ensures
