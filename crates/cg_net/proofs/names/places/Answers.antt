use Rattle.std.proofs.Common.{◌≡◌, Some, refl, sym, ◌∙◌, ap, subst, arith}
use Rattle.std.specs.List.{All, slice_get}
use Rattle.std.proofs.lemmas.List.{length-set, take_all}
use Rattle.std.proofs.lemmas.Option.{slice_get_read}
use Rattle.cg_net.specs.inner.NamePlaces.{IsPlaced}
use Rattle.cg_net.proofs.NamesInOrder.{placed_more}
use Rattle.cg_net.proofs.TableLemmas.{All-at}
use Rattle.cg_net.proofs.names.places.Goals as goal

pub loop-place-preserved : goal.loop-place-preserved
loop-place-preserved c =
    let order = c.args.order.now in
    let place = c.loop-place.place in
    let places = c.loop-place.places.items in
    let net = c.number.result in
    let at : slice_get order place ≡ Some net = slice_get_read order _ place c.index-order-place.result refl c.loop-place-test.true c.index-order-place.is ∙ ap (λ n. Some n) (sym c.number.ensures.number) in
    let below = All-at order c.args.count place net at c.requires.nets in
    record {
      long = length-set places net place ∙ c.loop-place.invariant.long;
      placed = placed_more order places place net c.loop-place.invariant.placed at (omega (arith, below, c.loop-place.invariant.long));
    }

pub returns-clause-placed : goal.returns-clause-placed
returns-clause-placed c = subst (All (IsPlaced c.args.order.now c.loop-place.places.items)) (take_all c.loop-place.place c.args.order.now (omega (arith, c.loop-place-test.false))) c.loop-place.invariant.placed
