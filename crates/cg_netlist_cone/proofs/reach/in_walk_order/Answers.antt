use Rattle.std.proofs.Common.{◌≡◌, ℕ, true, List, length, ◌∙◌, subst}
use Rattle.cg_net.specs.NetSets.{is_in}
use Rattle.cg_netlist_cone.proofs.ConeEdge.{kept_below, walked_more}
use Rattle.cg_netlist_cone.proofs.reach.in_walk_order.Goals as goal

pub cell_in_place-requires : goal.cell_in_place-requires
cell_in_place-requires g c =
    let n : ℕ = length (g.W.Wiring.order c.args.wiring.now) in
    let numbers : List ℕ = c.into_vec.result.items in
    let are = c.deref-place-items.ensures.value ∙ c.ascending-places.ensures n (λ p among. c.requires p (subst (λ l. is_in l p ≡ true) c.into_vec.ensures among)) in
    kept_below (is_in numbers) n c.deref-place-items.result.now c.loop-place.place-index are c.loop-place-test.true

pub loop-place-preserved : goal.loop-place-preserved
loop-place-preserved g c =
    walked_more (g.W.Wiring.order c.args.wiring.now) c.deref-place-items.result.now c.loop-place.place-index c.cell_in_place.result c.loop-place.cells c.push.new.self c.loop-place-test.true c.cell_in_place.ensures c.loop-place.invariant c.in_ok-push.ensures.parts
