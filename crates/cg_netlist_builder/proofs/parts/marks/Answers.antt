use Rattle.std.proofs.Common.{◌≡◌, Some, true, refl, sym, ◌∙◌, ap, subst, take, ◌<◌, arith}
use Rattle.cg_net.proofs.TableLemmas.{All-at, take_next}
use Rattle.std.specs.List.{slice_get, slice_set}
use Rattle.std.proofs.lemmas.List.{length-set}
use Rattle.std.proofs.lemmas.Option.{slice_get_read}
use Rattle.cg_net.specs.Marks.{AreMarked}
use Rattle.cg_net.proofs.NetSetLemmas.{marked_more}
use Rattle.cg_netlist_builder.proofs.parts.marks.Goals as goal

pub loop-net-preserved : goal.loop-net-preserved
loop-net-preserved c =
    let nets = c.args.nets.now in
    let i = c.loop-net.net-index in
    let marks = c.loop-net.marks.items in
    let net = c.number.result in
    let at : slice_get nets i ≡ Some net = slice_get_read nets _ i c.net-item.result refl c.loop-net-test.true c.net-item.is ∙ ap (λ n. Some n) (sym c.number.ensures.number) in
    let within : net < c.args.count = All-at nets c.args.count i net at c.requires in (
      length-set marks net true ∙ c.loop-net.invariant.0,
      subst (AreMarked (slice_set marks net true)) (sym (take_next nets i net at)) (marked_more marks marks (take i nets) net c.loop-net.invariant.1 (λ n. refl) (omega (arith, c.loop-net.invariant.0, within))),
    )
