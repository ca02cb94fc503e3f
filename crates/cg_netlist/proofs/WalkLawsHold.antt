-- The laws of walk order and of the bits that a walk leaves.
use Rattle.std.proofs.Common.{◌≡◌, ℕ, zero, suc, ◌<◌, ◌≤◌, ◌⊎◌, Bool, true, false, List, [], ◌∷◌, length, map}
use Rattle.std.proofs.Common.{nat_eq, slice_get, slice_index, Some, refl, ap, sym, ◌∙◌, subst, inl, inr, arith}
use Rattle.std.specs.List.{All, IsDistinct}
use Rattle.std.proofs.lemmas.Bool.{both_ways, eqb-true, or_cases}
use Rattle.std.proofs.lemmas.List.{length-map}
use Rattle.std.proofs.lemmas.Option.{same_Some, slice_get-get_or, slice_get_past}
use Rattle.cg_netlist.specs.Chains.{chain, chain_cell}
use Rattle.cg_netlist.specs.Circuit.{Circuit, GatingCell, LogicCell, cell_nets, clock_nets, gater_outputs, given_nets}
use Rattle.cg_net.specs.NetSets.{is_in}
use Rattle.cg_netlist.specs.Netlist.{IsNetlist}
use Rattle.cg_netlist.specs.Nets.{nets_of, outputs}
use Rattle.cg_netlist.specs.WalkLaws.{ClockIsApart, GaterOrderIsWalk, NetsAreAll, NetsSettle, WalkLeavesMoment, WalkOrderIsWalk}
use Rattle.cg_netlist.specs.WellFormed.{AreRanks, IsWellFormed}
use Rattle.cg_netlist.specs.inner.Walking.{IsLevelled}
use Rattle.cg_netlist.proofs.ClockFree.{lowers}
use Rattle.cg_netlist.proofs.Clocks.{pin_clocked}
use Rattle.cg_netlist.proofs.DriverTable.{gater_net_within}
use Rattle.cg_netlist.proofs.Given.{clock_given, clock_no_gater, distinct_cells, distinct_gaters, driver_within, gater_given}
use Rattle.cg_netlist.proofs.Given.{given_driver, in_option}
use Rattle.cg_net.proofs.Members.{is_in_cases, member_at, one_place}
use Rattle.cg_netlist.proofs.NetsOf.{nets_only, nets_settle, put_same}
use Rattle.cg_netlist.proofs.OrderLemmas.{gaters_within}
use Rattle.cg_netlist.proofs.Values.{at_map}
use Rattle.cg_netlist.proofs.WalkOrder.{walk_is}
use Rattle.std.specs.Option.{option_to_list}

pub walk_order_is_walk : WalkOrderIsWalk
walk_order_is_walk c good = walk_is c.cells good.ranks good.ranked (distinct_cells c good.driven)

-- gating cells as cells over their clock pins
chain_at : (gs : List (GatingCell ℕ)) (k : ℕ) (cell : LogicCell ℕ) → slice_get (chain gs) k ≡ Some cell → (g : GatingCell ℕ) × (slice_get gs k ≡ Some g) × (chain_cell g ≡ cell)
chain_at [] k cell at = absurd (cc)
chain_at (g ∷ gs) zero cell at = (g, refl, same_Some (chain_cell g) cell at)
chain_at (g ∷ gs) (suc k) cell at = chain_at gs k cell at

pub chain_outputs : (gs : List (GatingCell ℕ)) → outputs (chain gs) ≡ map (λ (g : GatingCell ℕ). g.output) gs
chain_outputs [] = refl
chain_outputs (g ∷ gs) = ap (λ l. g.output ∷ l) (chain_outputs gs)

pub lone : (x y : ℕ) → is_in (x ∷ []) y ≡ true → y ≡ x
lone x y among = elim (or_cases (nat_eq y x) false among) [ inl same ↦ eqb-true y x same | inr never ↦ absurd (both_ways false refl never) ]

chain_ranked : (c : Circuit) → IsWellFormed c → (numbers : List ℕ) → length numbers ≡ length c.gaters
    → ((k : ℕ) (g : GatingCell ℕ) → slice_get c.gaters k ≡ Some g → (c.clock ≡ Some g.clock) ⊎ ((j : ℕ) × (before : GatingCell ℕ) × (slice_get c.gaters j ≡ Some before) × (before.output ≡ g.clock) × (slice_index numbers j < slice_index numbers k)))
    → AreRanks (chain c.gaters) numbers
chain_ranked c good numbers count chained = record {
  count = count ∙ sym (length-map c.gaters chain_cell);
  rising = λ j k driver cell at_j at_k among.
      let d = chain_at c.gaters j driver at_j in
      let e = chain_at c.gaters k cell at_k in
      let same : d.0.output ≡ e.0.clock = lone e.0.clock d.0.output (subst (λ (x : LogicCell ℕ). is_in x.inputs d.0.output ≡ true) (sym e.2) (subst (λ (x : LogicCell ℕ). is_in cell.inputs x.output ≡ true) (sym d.2) among)) in
      let out : (i : ℕ) (g : GatingCell ℕ) → slice_get c.gaters i ≡ Some g → slice_get (gater_outputs c) i ≡ Some g.output = λ i g at. at_map (λ (x : GatingCell ℕ). x.output) c.gaters i g at in
      elim (chained k e.0 e.1) [
        | inl clock ↦ absurd (both_ways (is_in (gater_outputs c) e.0.clock) (clock_no_gater c good.driven e.0.clock clock) (subst (λ x. is_in (gater_outputs c) x ≡ true) same (member_at (gater_outputs c) j d.0.output (out j d.0 d.1))))
        | inr lower ↦
            let here : j ≡ lower.0 = one_place (gater_outputs c) j lower.0 e.0.clock (distinct_gaters c good.driven) (out j d.0 d.1 ∙ ap Some same) (out lower.0 lower.1 lower.2 ∙ ap Some lower.3) in
            subst (λ i. slice_index numbers i < slice_index numbers k) (sym here) lower.4
      ];
}

pub gater_order_is_walk : GaterOrderIsWalk
gater_order_is_walk c good =
    walk_is (chain c.gaters) good.numbers (chain_ranked c good good.numbers good.chained.count good.chained.chained)
    (subst (IsDistinct nat_eq) (sym (chain_outputs c.gaters)) (distinct_gaters c good.driven))

-- the gating cells of a netlist may be searched for their ranks
pub chain_levelled : (c : Circuit) → IsNetlist c → (n : ℕ) → n ≡ length c.names → IsLevelled n (chain c.gaters)
chain_levelled c good n is =
    let gater : (k : ℕ) (d : LogicCell ℕ) → k < length (chain c.gaters) → (g : GatingCell ℕ) × (slice_get c.gaters k ≡ Some g) × (chain_cell g ≡ Rattle.std.proofs.Common.get_or (chain c.gaters) k d) =
    λ k d below. chain_at c.gaters k (Rattle.std.proofs.Common.get_or (chain c.gaters) k d) (slice_get-get_or (chain c.gaters) k d below) in
    record {
      few = omega (arith, length-map c.gaters chain_cell, gaters_within c good.in_order, good.nets);
      outputs = λ k d below.
          let g = gater k d below in
          subst (λ (x : LogicCell ℕ). x.output < n) g.2 (let small = gater_net_within c good.well_formed.driven k g.0 g.1 in omega (arith, small, is));
      inputs = λ k d below.
          let g = gater k d below in
          subst (λ (x : LogicCell ℕ). All (λ net. net < n) x.inputs) g.2 (Rattle.cg_net.proofs.Members.All-from_members (λ net. net < n) (g.0.clock ∷ []) (λ net among.
          let same : net ≡ g.0.clock = lone g.0.clock net among in
          let small = clock_within c good.well_formed g.0.clock (pin_clocked c good.well_formed k g.0 g.1) in
          omega (arith, small, is, same)));
    }
  where
    clock_within : (c : Circuit) → IsWellFormed c → (net : ℕ) → is_in (clock_nets c) net ≡ true → net < length c.names
    clock_within c formed net among = driver_within c formed.driven net (given_driver c net (elim (is_in_cases (option_to_list c.clock) (gater_outputs c) net among) [
      | inl clock ↦ clock_given c net (in_option c.clock net clock)
      | inr gate ↦ gater_given c net gate
    ]))

pub nets_do_settle : NetsSettle
nets_do_settle c walk clock inputs state gates good walks given = nets_settle c good.driven walk walks clock inputs state gates good.used good.ranks good.ranked given.inputs_long given.state_long given.gates_long

pub nets_are_all : NetsAreAll
nets_are_all c walk clock inputs state gates nets good walks settles = nets_only c good.driven walk walks clock inputs state gates nets settles

pub walk_leaves_moment : WalkLeavesMoment
walk_leaves_moment c walk clock inputs state gates nets table good walks settles long given =
    put_same walk table nets (long ∙ sym settles.long) (λ j cell at. let k = walks.of_cells j cell at in settles.holds k.0 cell k.1) walks.ordered (λ x out. elim (below_or (length c.names) x) [
      | inl below ↦ elim (is_in_cases (given_nets c) (cell_nets c) x (good.driven.driven x below)) [
        | inl among ↦ given x among
        | inr output ↦ absurd (both_ways (is_in (outputs walk) x) out (walks.whole x output))
      ]
      | inr past ↦ slice_get_past table x (omega (arith, past, long)) ∙ sym (slice_get_past nets x (omega (arith, past, settles.long)))
    ])
  where
    below_or : (n x : ℕ) → (x < n) ⊎ (n ≤ x)
    below_or zero x = inr (omega arith)
    below_or (suc n) zero = inl (omega arith)
    below_or (suc n) (suc x) = elim (below_or n x) [ inl h ↦ inl (omega arith) | inr h ↦ inr (omega arith) ]

pub clock_is_apart : ClockIsApart
clock_is_apart c walk inputs state gates good walks given net other =
    let high : List Bool = nets_of c walk true inputs state gates in
    let low = lowers c good inputs state gates high true (nets_do_settle c walk true inputs state gates good walks given) in
    sym (low.apart net other) ∙ ap (λ nets. slice_get nets net) (sym (nets_are_all c walk false inputs state gates low.low good walks low.settles))
