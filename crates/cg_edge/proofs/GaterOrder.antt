-- The order of gating cells has each behind the one that drives its clock pin.
use Rattle.std.proofs.Common.{◌≡◌, ℕ, ◌<◌, false, List, [], ◌∷◌, length, slice_get, get_or, Some, nat_eq, sym, ◌∙◌, ap, subst}
use Rattle.std.proofs.Common.{arith}
use Rattle.std.specs.Option.{option_map}
use Rattle.std.proofs.lemmas.Bool.{both_ways, eq-eqb, or_left}
use Rattle.std.proofs.lemmas.List.{length-map}
use Rattle.std.proofs.lemmas.Option.{get_or_from_slice_get, same_Some, slice_get-map, slice_get_within}
use Rattle.cg_netlist.specs.Chains.{chain, chain_cell, gater_order}
use Rattle.cg_netlist.specs.Circuit.{Circuit, GatingCell, LogicCell, gater_outputs}
use Rattle.cg_net.specs.NetSets.{is_in}
use Rattle.cg_netlist.specs.Moment.{values_at}
use Rattle.cg_netlist.specs.WellFormed.{IsWellFormed}
use Rattle.cg_netlist.proofs.Given.{distinct_gaters}
use Rattle.cg_net.proofs.Members.{one_place}
use Rattle.cg_netlist.proofs.Values.{at_map, element_at, value_at}
use Rattle.cg_netlist.proofs.WalkLawsHold.{gater_order_is_walk}
use Rattle.cg_edge.specs.inner.Keeping.{IsChain}
use Rattle.cg_edge.proofs.Walk.{ordered_at, walk_within}

module _ (c : Circuit) (good : IsWellFormed c) where
  abbrev cells : List (LogicCell ℕ)
  cells = chain c.gaters

  cell_at : (k : ℕ) (a : GatingCell ℕ) → slice_get c.gaters k ≡ Some a → slice_get cells k ≡ Some (chain_cell a)
  cell_at k a at = slice_get-map chain_cell c.gaters k ∙ ap (option_map chain_cell) at

  within : (j k : ℕ) → slice_get (gater_order c.gaters) j ≡ Some k → k < length c.gaters
  within j k at =
      let below = walk_within cells j k (slice_get_within (gater_order c.gaters) j k at) in
      let same : get_or (gater_order c.gaters) j k ≡ k = get_or_from_slice_get (gater_order c.gaters) j k k at in
      omega (arith, below, same, length-map c.gaters chain_cell)

  -- the gating cell at a place
  placed_at : (j k : ℕ) (a : GatingCell ℕ) → slice_get (gater_order c.gaters) j ≡ Some k → slice_get c.gaters k ≡ Some a → slice_get (values_at cells (gater_order c.gaters)) j ≡ Some (chain_cell a)
  placed_at j k a at is = value_at cells (gater_order c.gaters) j k (walk_within cells) at ∙ cell_at k a is

  pub gater_chain : (order : List ℕ) → order ≡ gater_order c.gaters → IsChain c order
  gater_chain order same = subst (IsChain c) (sym same) (record {
    within = within;
    placed = λ k below.
        let a : (a : GatingCell ℕ) × (slice_get c.gaters k ≡ Some a) = element_at c.gaters k below in
        let j = (gater_order_is_walk c good).placed k (chain_cell a.0) (cell_at k a.0 a.1) in
        let l : (l : ℕ) × (slice_get (gater_order c.gaters) j.0 ≡ Some l) = in_order j.0 (chain_cell a.0) j.1 in
        let b : (b : GatingCell ℕ) × (slice_get c.gaters l.0 ≡ Some b) = element_at c.gaters l.0 (within j.0 l.0 l.1) in
        let output : b.0.output ≡ a.0.output = ap (λ (x : LogicCell ℕ). x.output) (same_Some (chain_cell b.0) (chain_cell a.0) (sym (placed_at j.0 l.0 b.0 l.1 b.1) ∙ j.1)) in
        let place : l.0 ≡ k = one_place (gater_outputs c) l.0 k a.0.output (distinct_gaters c good.driven) (at_map (λ (g : GatingCell ℕ). g.output) c.gaters l.0 b.0 b.1 ∙ ap (λ x. Some x) output) (at_map (λ (g : GatingCell ℕ). g.output) c.gaters k a.0 a.1) in
        (j.0, l.1 ∙ ap (λ x. Some x) place);
    ordered = λ i j k l a b below here there at is e.
        both_ways (is_in (a.clock ∷ []) b.output)
        (ordered_at (values_at cells (gater_order c.gaters)) i j (chain_cell a) (chain_cell b) (gater_order_is_walk c good).ordered below (placed_at i k a here at) (placed_at j l b there is))
        (or_left (nat_eq b.output a.clock) false (eq-eqb b.output a.clock (sym e)));
  })
    where
      in_order : (j : ℕ) (cell : LogicCell ℕ) → slice_get (values_at cells (gater_order c.gaters)) j ≡ Some cell → (l : ℕ) × (slice_get (gater_order c.gaters) j ≡ Some l)
      in_order j cell at = element_at (gater_order c.gaters) j (let below = slice_get_within (values_at cells (gater_order c.gaters)) j cell at in omega (arith, below, Rattle.cg_netlist.proofs.Values.length-values_at cells (gater_order c.gaters) (walk_within cells)))
