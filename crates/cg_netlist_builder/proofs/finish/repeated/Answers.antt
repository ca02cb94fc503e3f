use Rattle.std.proofs.Common.{◌≡◌, ◌||◌, ◌<◌, ◌+◌, Some, true, refl, sym, ◌∙◌, ap, subst, take, arith}
use Rattle.std.specs.List.{slice_get, slice_set}
use Rattle.std.proofs.lemmas.Option.{slice_get_read}
use Rattle.cg_net.specs.Marks.{is_marked}
use Rattle.cg_net.proofs.TableLemmas.{All-at, take_next}
use Rattle.cg_netlist_builder.proofs.MarkLemmas.{HasCounted, counted_more}
use Rattle.cg_net.proofs.NetSetLemmas.{mark_at}
use Rattle.cg_netlist_builder.proofs.finish.repeated.Goals as goal

pub loop-net-preserved : goal.loop-net-preserved
loop-net-preserved c =
    let nets = c.args.nets.now in
    let i = c.loop-net.net-index in
    let once = c.loop-net.once.items in
    let twice = c.loop-net.twice.items in
    let net = c.number-place.result in
    let counted = c.loop-net.invariant in
    let at : slice_get nets i ≡ Some net = slice_get_read nets _ i c.net-item.result refl c.loop-net-test.true c.net-item.is ∙ ap (λ n. Some n) (sym c.number-place.ensures.number) in
    let within : net < c.args.count = All-at nets c.args.count i net at c.requires in
    let twice_is : is_marked twice net ≡ c.index.result.now = mark_at twice net c.index.result.now (omega (arith, counted.twice_fits, within)) c.index.ensures in
    let once_is : is_marked once net ≡ c.index-in-loop-net.result.now = mark_at once net c.index-in-loop-net.result.now (omega (arith, counted.once_fits, within)) c.index-in-loop-net.ensures in
    subst (λ b. HasCounted (slice_set once net true) (slice_set twice net b) c.args.count (take (i + 1) nets)) (ap (λ b. b || is_marked once net) twice_is ∙ ap (λ b. c.index.result.now || b) once_is)
    (subst (HasCounted (slice_set once net true) (slice_set twice net (is_marked twice net || is_marked once net)) c.args.count) (sym (take_next nets i net at)) (counted_more once twice c.args.count (take i nets) net counted within))
