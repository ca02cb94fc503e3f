-- Gating cells by depth: each stands behind the one that drives its clock pin.
use Rattle.std.proofs.Common.{◌≡◌, ◌⊎◌, ℕ, zero, suc, ◌≤◌, true, List, [], ◌∷◌, length, map, slice_get, nat_eq, Option, None, Some}
use Rattle.std.proofs.Common.{refl, ap, sym, ◌∙◌, subst, inl, inr, arith}
use Rattle.std.specs.List.{cons_option}
use Rattle.std.specs.Option.{option_map}
use Rattle.std.proofs.lemmas.Bool.{both_ways, eq-eqb, or_cases, or_left, or_right}
use Rattle.std.proofs.lemmas.List.{length-map}
use Rattle.std.proofs.lemmas.Option.{slice_get-map}
use Rattle.cg_netlist.specs.Chains.{chain, chain_cell, gater_order}
use Rattle.cg_netlist.specs.Circuit.{Circuit, GatingCell, gater_outputs}
use Rattle.cg_net.specs.NetSets.{is_in}
use Rattle.cg_netlist.specs.Moment.{values_at}
use Rattle.cg_netlist.specs.Nets.{IsOrdered, outputs}
use Rattle.cg_netlist.specs.WellFormed.{IsWellFormed}
use Rattle.cg_net.proofs.Members.{member_at}
use Rattle.cg_netlist.proofs.Values.{at_map}
use Rattle.cg_netlist.proofs.WalkLawsHold.{chain_outputs, gater_order_is_walk}
use Rattle.cg_netlist.proofs.WalkPlaces.{walk_long}
use Rattle.cg_extract.specs.Lifted.{by_depth}

-- gating cells of the netlist, whose clock pins are on the clock, on a net of `taken`, or on the output of one before
abbrev pub Ready : Circuit → List ℕ → List (GatingCell ℕ) → Type 0
Ready c taken [] = Unit {0}
Ready c taken (g ∷ gs) = ((k : ℕ) × (slice_get c.gaters k ≡ Some g)) × ((c.clock ≡ Some g.clock) ⊎ (is_in taken g.clock ≡ true)) × Ready c (g.output ∷ taken) gs

-- items at places
values_mapped : {X Y : Type 0} (f : X → Y) (xs : List X) (ks : List ℕ) → values_at (map f xs) ks ≡ map f (values_at xs ks)
values_mapped f xs [] = refl
values_mapped {X} f xs (k ∷ ks) = ap (λ o. cons_option o (values_at (map f xs) ks)) (slice_get-map f xs k) ∙ (ap (cons_option (option_map f (slice_get xs k))) (values_mapped f xs ks) ∙ go (slice_get xs k))
  where
    go : (o : Option X) → cons_option (option_map f o) (map f (values_at xs ks)) ≡ map f (cons_option o (values_at xs ks))
    go None = refl
    go (Some x) = refl

item_there : {X : Type 0} (xs : List X) (ks : List ℕ) (j : ℕ) (x : X) → slice_get (values_at xs ks) j ≡ Some x → (k : ℕ) × (slice_get xs k ≡ Some x)
item_there xs [] j x at = absurd (cc)
item_there {X} xs (k ∷ ks) j x at = go (slice_get xs k) refl j at (item_there xs ks)
  where
    go : (o : Option X) → slice_get xs k ≡ o → (j : ℕ) → slice_get (cons_option o (values_at xs ks)) j ≡ Some x → ((j : ℕ) (x : X) → slice_get (values_at xs ks) j ≡ Some x → (k : ℕ) × (slice_get xs k ≡ Some x)) → (k : ℕ) × (slice_get xs k ≡ Some x)
    go None is j at rest = rest j x at
    go (Some y) is zero at rest = (k, is ∙ at)
    go (Some y) is (suc j) at rest = rest j x at

values_few : {X : Type 0} (xs : List X) (ks : List ℕ) → length (values_at xs ks) ≤ length ks
values_few xs [] = omega arith
values_few {X} xs (k ∷ ks) = go (slice_get xs k) (values_few xs ks)
  where
    go : (o : Option X) → length (values_at xs ks) ≤ length ks → length (cons_option o (values_at xs ks)) ≤ suc (length ks)
    go None few = omega (arith, few)
    go (Some x) few = omega (arith, few)

module _ (c : Circuit) (good : IsWellFormed c) where
  ready_by : (taken : List ℕ) (gs : List (GatingCell ℕ)) → IsOrdered (chain gs) → ((x : ℕ) → is_in (gater_outputs c) x ≡ true → (is_in taken x ≡ true) ⊎ (is_in (outputs (chain gs)) x ≡ true))
      → ((j : ℕ) (g : GatingCell ℕ) → slice_get gs j ≡ Some g → (k : ℕ) × (slice_get c.gaters k ≡ Some g)) → Ready c taken gs
  ready_by taken [] ordered has all = tt
  ready_by taken (g ∷ gs) ordered has all =
      let own = all 0 g refl in (
        own,
        elim (good.chained.chained own.0 g own.1) [
          | inl clk ↦ inl clk
          | inr lower ↦ inr (elim (has g.clock (subst (λ x. is_in (gater_outputs c) x ≡ true) lower.3 (member_at (gater_outputs c) lower.0 lower.1.output (at_map (λ (g : GatingCell ℕ). g.output) c.gaters lower.0 lower.1 lower.2)))) [
            | inl before ↦ before
            | inr later ↦ absurd (both_ways (is_in (outputs (chain (g ∷ gs))) g.clock) (ordered.0 g.clock (or_left (nat_eq g.clock g.clock) (is_in [] g.clock) (eq-eqb g.clock g.clock refl))) later)
          ])
        ],
        ready_by (g.output ∷ taken) gs ordered.1 (λ x gate. elim (has x gate) [
          | inl before ↦ inl (or_right (nat_eq x g.output) (is_in taken x) before)
          | inr there ↦ elim (or_cases (nat_eq x g.output) (is_in (outputs (chain gs)) x) there) [
            | inl here ↦ inl (or_left (nat_eq x g.output) (is_in taken x) here)
            | inr later ↦ inr later
          ]
        ]) (λ j h at. all (suc j) h at),
      )

  pub ready : Ready c [] (by_depth c)
  ready =
      let walk = gater_order_is_walk c good in
      let same = values_mapped chain_cell c.gaters (gater_order c.gaters) in
      ready_by [] (by_depth c) (subst IsOrdered same walk.ordered)
      (λ x gate. inr (subst (λ cells. is_in (outputs cells) x ≡ true) same (walk.whole x (ap (λ xs. is_in xs x) (chain_outputs c.gaters) ∙ gate))))
      (λ j g at. item_there c.gaters (gater_order c.gaters) j g at)

  -- none drives the clock pin of one before it
  pub depth_ordered : IsOrdered (chain (by_depth c))
  depth_ordered = subst IsOrdered (values_mapped chain_cell c.gaters (gater_order c.gaters)) (gater_order_is_walk c good).ordered

  -- they are gating cells of the netlist
  pub depth_own : (j : ℕ) (g : GatingCell ℕ) → slice_get (by_depth c) j ≡ Some g → (k : ℕ) × (slice_get c.gaters k ≡ Some g)
  depth_own j g at = item_there c.gaters (gater_order c.gaters) j g at

  -- each gating cell is among them
  pub all_taken : (x : ℕ) → is_in (gater_outputs c) x ≡ true → is_in (map (λ (g : GatingCell ℕ). g.output) (by_depth c)) x ≡ true
  all_taken x gate =
      let walk = gater_order_is_walk c good in
      let same = values_mapped chain_cell c.gaters (gater_order c.gaters) in
      let there : is_in (outputs (chain (by_depth c))) x ≡ true = subst (λ cells. is_in (outputs cells) x ≡ true) same (walk.whole x (ap (λ xs. is_in xs x) (chain_outputs c.gaters) ∙ gate)) in
      sym (ap (λ xs. is_in xs x) (chain_outputs (by_depth c))) ∙ there

-- there are no more of them than gating cells
pub depths_few : (c : Circuit) → length (by_depth c) ≤ length c.gaters
depths_few c = let a = values_few c.gaters (gater_order c.gaters) in let b = walk_long (chain c.gaters) in let d = length-map c.gaters chain_cell in omega (arith, a, b, d)
