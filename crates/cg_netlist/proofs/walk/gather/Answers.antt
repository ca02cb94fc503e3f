use Rattle.std.proofs.Common.{◌≡◌, ◌<◌, ℕ, Some, length, slice_get, subst, sym, ◌∙◌, ap, refl, arith}
use Rattle.std.proofs.lemmas.List.Elements.{All-get_or}
use Rattle.std.proofs.lemmas.Option.{slice_get_read}
use Rattle.cg_netlist.proofs.Walks.{gathered}
use Rattle.cg_netlist.proofs.walk.gather.Goals as goal

pub loop-place-preserved : goal.loop-place-preserved
loop-place-preserved g c =
    let place : ℕ = c.loop-place.place in
    let at : slice_get c.args.nets.now place ≡ Some c.number.result = slice_get_read c.args.nets.now _ place c.index-nets-place.result refl c.loop-place-test.true c.index-nets-place.is ∙ ap Some (sym c.number.ensures.number) in
    let small : c.number.result < length c.args.values.now = subst (λ n. n < length c.args.values.now) (sym (c.number.ensures.number ∙ c.index-nets-place.is)) (All-get_or (λ net. net < length c.args.values.now) c.args.nets.now place c.index-nets-place.result c.loop-place-test.true c.requires.nets) in
    gathered c.args.values.now c.loop-place.scratch c.args.nets.now place c.number.result c.index-values-number.result at
    (slice_get_read c.args.values.now _ c.number.result c.index-values-number.result refl small c.index-values-number.is)
    (omega (arith, c.loop-place-test.true, c.requires.scratch, c.loop-place.auto.scratch)) c.loop-place.invariant
