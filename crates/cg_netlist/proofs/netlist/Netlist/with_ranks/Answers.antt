use Rattle.std.proofs.Common.{◌≡◌, ◌<◌, true, not, length, sym, ◌∙◌, ap, subst, arith}
use Rattle.std.specs.List.{filter}
use Rattle.std.specs.Option.{option_to_list}
use Rattle.cg_netlist.specs.Circuit.{Circuit, data_inputs}
use Rattle.cg_net.specs.NetSets.{is_in}
use Rattle.cg_netlist.specs.Netlist.{widest_of}
use Rattle.cg_netlist.specs.Nets.{walk_order}
use Rattle.cg_netlist.specs.Ranks.{ranks_of}
use Rattle.cg_netlist.proofs.CellFits.{walk_within}
use Rattle.cg_net.proofs.Members.{All-from_members}
use Rattle.cg_netlist.proofs.OrderLemmas.{cells_within}
use Rattle.cg_netlist.proofs.WalkPlaces.{few_walked, placed_as, whole_walk}
use Rattle.cg_netlist.proofs.netlist.Netlist.with_ranks.Goals as goal

pub walk_by_ranks-requires-clause-few : goal.walk_by_ranks-requires-clause-few
walk_by_ranks-requires-clause-few c = omega (arith, ap length (c.deref-3.ensures.value ∙ ap (λ (p : Circuit). p.cells) c.parts.view_is), cells_within c.args.parts c.requires.netlist.in_order, c.requires.netlist.nets)

pub walk_by_ranks-requires-clause-ranks : goal.walk_by_ranks-requires-clause-ranks
walk_by_ranks-requires-clause-ranks c = c.requires.ranks ∙ ap ranks_of (sym (c.deref-3.ensures.value ∙ ap (λ (p : Circuit). p.cells) c.parts.view_is))

pub places-requires-clause-cells : goal.places-requires-clause-cells
places-requires-clause-cells c =
    let order : c.deref-4.result.now ≡ walk_order c.args.parts.cells = c.deref-4.ensures.value ∙ (c.in_ok-order.ensures ∙ ap walk_order (c.deref-3.ensures.value ∙ ap (λ (p : Circuit). p.cells) c.parts.view_is)) in
    let count : c.len.result ≡ length c.args.parts.cells = c.len.ensures ∙ (c.parts.inside.cells.ok.0 ∙ ap (λ (p : Circuit). length p.cells) c.parts.view_is) in
    All-from_members (λ k. k < c.len.result) c.deref-4.result.now (λ k among. let low = walk_within c.args.parts.cells k (subst (λ ks. is_in ks k ≡ true) order among) in omega (arith, low, count))

pub places-requires-clause-few : goal.places-requires-clause-few
places-requires-clause-few c =
    let order : c.deref-4.result.now ≡ walk_order c.args.parts.cells = c.deref-4.ensures.value ∙ (c.in_ok-order.ensures ∙ ap walk_order (c.deref-3.ensures.value ∙ ap (λ (p : Circuit). p.cells) c.parts.view_is)) in
    few_walked c.args.parts c.requires.netlist c.deref-4.result.now order

pub places-requires-clause-whole : goal.places-requires-clause-whole
places-requires-clause-whole c k below =
    let order : c.deref-4.result.now ≡ walk_order c.args.parts.cells = c.deref-4.ensures.value ∙ (c.in_ok-order.ensures ∙ ap walk_order (c.deref-3.ensures.value ∙ ap (λ (p : Circuit). p.cells) c.parts.view_is)) in
    let count : c.len.result ≡ length c.args.parts.cells = c.len.ensures ∙ (c.parts.inside.cells.ok.0 ∙ ap (λ (p : Circuit). length p.cells) c.parts.view_is) in
    subst (λ ks. is_in ks k ≡ true) (sym order) (whole_walk c.args.parts c.requires.netlist k (omega (arith, below, count)))

pub invariant_of-result : goal.invariant_of-result
invariant_of-result c =
    record {
      netlist = c.requires.netlist;
      inputs = c.in_ok-data_inputs.ensures ∙ (ap (filter (λ net. not (is_in (option_to_list c.parts.inside.clock) net))) c.deref.ensures.value ∙ ap data_inputs c.parts.view_is);
      widest = c.widest-widest.ensures ∙ ap widest_of (c.deref-2.ensures.value ∙ ap (λ (p : Circuit). p.cells) c.parts.view_is);
      order = c.in_ok-order.ensures ∙ ap walk_order (c.deref-3.ensures.value ∙ ap (λ (p : Circuit). p.cells) c.parts.view_is);
      placed = placed_as c.in_ok-places.places.items
          (c.deref-4.ensures.value) (c.len.ensures ∙ (c.parts.inside.cells.ok.0 ∙ ap (λ (p : Circuit). length p.cells) c.parts.view_is)) c.in_ok-places.ensures;
      drivers = c.in_ok-drivers.ensures;
    }
