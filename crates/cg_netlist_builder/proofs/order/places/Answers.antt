use Rattle.std.proofs.Common.{◌≡◌, Some, refl, sym, ◌∙◌, ap, arith}
use Rattle.std.specs.List.{slice_get}
use Rattle.std.proofs.lemmas.Option.{slice_get_read}
use Rattle.cg_netlist_builder.proofs.OrderPlaces.{place_at_end, place_more}
use Rattle.cg_netlist_builder.proofs.order.places.Goals as goal

pub loop-i-preserved : goal.loop-i-preserved
loop-i-preserved c =
    let order = c.args.order.now in
    let i = c.loop-i.i in
    let at : slice_get order i ≡ Some c.number.result = slice_get_read order _ i c.index-order-i.result refl c.loop-i-test.true c.index-order-i.is ∙ ap (λ n. Some n) (sym c.number.ensures.number) in
    let more = place_more c.loop-i.places.items c.args.count order i c.number.result c.new-in-loop-i.result c.loop-i.invariant.fits c.loop-i.invariant.tells c.requires.nets c.requires.once at c.new-in-loop-i.ensures in
    record { fits = more.0; tells = more.1 }

pub returns-clause-tells : goal.returns-clause-tells
returns-clause-tells c = λ net lt. c.loop-i.invariant.tells net lt ∙ place_at_end c.args.order.now c.loop-i.i net (omega (arith, c.loop-i-test.false))
