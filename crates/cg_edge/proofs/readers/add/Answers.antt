use Rattle.std.proofs.Common.{◌≡◌, ◌<◌, ◌++◌, ◌∷◌, [], ℕ, ◌+◌, List, get_or, length, slice_set, take, sym, subst, ap, ◌∙◌, arith}
use Rattle.std.proofs.lemmas.List.{get_or_default}
use Rattle.cg_edge.specs.inner.Keeping.{IsAdded, readers_at}
use Rattle.cg_edge.specs.inner.Spans.{Filled}
use Rattle.cg_edge.proofs.Added.{added_more}
use Rattle.cg_edge.proofs.Reading.{AreLonger, count_within, longer_more}
use Rattle.cg_edge.proofs.readers.add.Goals as goal

pub push-requires-clause-room : goal.push-requires-clause-room
push-requires-clause-room c =
    let inputs : List ℕ = c.args.inputs.now in
    let x : ℕ = c.net-item.result in
    let old : Filled = c.args.filling.now in
    let cur : Filled = c.loop-net.filling in
    let is : x ≡ get_or inputs c.loop-net.net-index 0 = c.net-item.is ∙ get_or_default inputs c.loop-net.net-index x 0 c.loop-net-test.true in
    let net = c.requires.within c.loop-net.net-index 0 c.loop-net-test.true in
    let below : x < length old.lists = omega (arith, net, is) in
    let room = c.requires.room x below in
    let longer = c.loop-net.invariant.2 x below in
    let within = count_within inputs c.loop-net.net-index x c.loop-net-test.true is in
    let same : get_or cur.room x 0 ≡ get_or old.room x 0 = ap (λ l. get_or l x 0) c.loop-net.invariant.1 in
    omega (arith, room, longer, within, same)

pub loop-net-preserved : goal.loop-net-preserved
loop-net-preserved c =
    let inputs : List ℕ = c.args.inputs.now in
    let i : ℕ = c.loop-net.net-index in
    let x : ℕ = c.net-item.result in
    let old : Filled = c.args.filling.now in
    let cur : Filled = c.loop-net.filling in
    let long : length cur.lists ≡ length old.lists = c.loop-net.invariant.0.long in
    let is : x ≡ get_or inputs i 0 = c.net-item.is ∙ get_or_default inputs i x 0 c.loop-net-test.true in
    let net = c.requires.within i 0 c.loop-net-test.true in
    let below : x < length old.lists = omega (arith, net, is) in
    let new : c.push.new.self.lists ≡ slice_set cur.lists x (readers_at cur.lists x ++ c.args.place ∷ []) = ap (λ (f : Filled). f.lists) c.push.ensures in (
      subst (IsAdded (take (i + 1) inputs) c.args.place old.lists) (sym new) (added_more inputs i x c.args.place old.lists cur.lists c.loop-net-test.true is (omega (arith, below, long)) c.loop-net.invariant.0),
      ap (λ (f : Filled). f.room) c.push.ensures ∙ c.loop-net.invariant.1,
      subst (AreLonger inputs (i + 1) old.lists) (sym new) (longer_more inputs i x c.args.place old.lists cur.lists c.loop-net-test.true is long c.loop-net.invariant.2),
    )
