-- The literals that the leaves of a question give are those of the definition.
use Rattle.std.proofs.Common.{◌≡◌, ℕ, zero, suc, ◌+◌, ◌*◌, Bool, true, false, if◌then◌else◌, List, [], ◌∷◌, map, length}
use Rattle.std.proofs.Common.{nat_eq, slice_get, slice_index_or, Option, None, Some, option_map, refl, sym, ◌∙◌, ap, subst, arith}
use Rattle.std.proofs.Common.{inl, inr}
use Rattle.std.specs.Option.{option_map_or}
use Rattle.std.proofs.lemmas.Bool.{both_ways, cases_Bool, eqb-true, ltb-true}
use Rattle.std.proofs.lemmas.List.{length-map}
use Rattle.std.proofs.lemmas.Option.{none-some, same_Some}
use Rattle.cg_netlist.specs.Circuit.{data_inputs}
use Rattle.cg_net.specs.NetSets.{is_in}
use Rattle.cg_netlist.proofs.Given.{data_given, driver_within, given_driver}
use Rattle.cg_machine.specs.Machine.{IsMachine, MachineData}
use Rattle.cg_claim.specs.Build.{aig_values, leaf_value}
use Rattle.cg_claim.specs.declared.leaf.Leaf.{Leaf as ShownLeaf}
use Rattle.cg_claim.specs.declared.leaf.LeafSource.{LeafSource}
use Rattle.cg_claim.specs.declared.leaf.LeafSource.TheVariants.{Input as InputOf, Register as RegisterOf}
use Rattle.cg_claim.specs.Leaves.{Leaf, copy_number, is_reached, is_source, leaf_place, leaves_of, same_leaf, shown_leaf}
use Rattle.cg_claim.specs.Question.{After, Before, Changed, Copy, Question}
use Rattle.cg_claim.proofs.LeafOrder.{leaf, leaf_numbered}
use Rattle.cg_claim.proofs.LeavesFound.{leaf_among, leaf_is, place_below}
use Rattle.cg_unroll.specs.declared.tables.Sources.{Sources}
use Rattle.cg_unroll.specs.declared.tables.Sources.TheVariants.{Inputs, Registers}
use Rattle.cg_unroll.specs.inner.Copying.{AreLeavesPlaced}
use Rattle.cg_unroll.specs.Placing.{AgreesLeaves, FillsLeaves, place_in, source_place}
use Rattle.cg_unroll.proofs.LeafSources.{leaf_source}
use Rattle.cg_claim.proofs.EmbeddedLeaves.{place_there}

mapped : {X Y : Type 0} (f : X → Y) (xs : List X) (k : ℕ) (y : Y) → slice_get (map f xs) k ≡ Some y → (x : X) × (slice_get xs k ≡ Some x) × (f x ≡ y)
mapped f [] k y at = absurd (none-some y at)
mapped f (x ∷ xs) zero y at = (x, refl, same_Some (f x) y at)
mapped f (x ∷ xs) (suc k) y at = mapped f xs k y at

map_at : {X Y : Type 0} (f : X → Y) (xs : List X) (k : ℕ) (x : X) → slice_get xs k ≡ Some x → slice_get (map f xs) k ≡ Some (f x)
map_at f [] k x at = absurd (none-some x at)
map_at f (y ∷ xs) zero x at = ap Some (ap f (same_Some y x at))
map_at f (y ∷ xs) (suc k) x at = map_at f xs k x at

-- the place of a leaf shows it
place_gives : (leaves : List Leaf) (l : Leaf) (k : ℕ) → leaf_place leaves l ≡ Some k → slice_get leaves k ≡ Some l
place_gives [] l k is = absurd (none-some k is)
place_gives (x ∷ leaves) l k is = go (place_gives leaves l) (same_leaf l x) refl is
  where
    later : ((j : ℕ) → leaf_place leaves l ≡ Some j → slice_get leaves j ≡ Some l) → (o : Option ℕ) → leaf_place leaves l ≡ o → option_map suc o ≡ Some k → slice_get (x ∷ leaves) k ≡ Some l
    later rest None at h = absurd (none-some k h)
    later rest (Some j) at h = subst (λ n. slice_get (x ∷ leaves) n ≡ Some l) (same_Some (suc j) k h) (rest j at)

    go : ((j : ℕ) → leaf_place leaves l ≡ Some j → slice_get leaves j ≡ Some l) → (b : Bool) → same_leaf l x ≡ b → (if b then Some 0 else option_map suc (leaf_place leaves l)) ≡ Some k → slice_get (x ∷ leaves) k ≡ Some l
    go rest true same h = subst (λ n. slice_get (x ∷ leaves) n ≡ Some l) (same_Some 0 k h) (ap Some (sym (leaf_is l x same)))
    go rest false same h = later rest (leaf_place leaves l) refl h

-- a net or a register as a source
abbrev pub source_of : Sources → ℕ → LeafSource
source_of Inputs y = InputOf y
source_of Registers r = RegisterOf r

source_at : (sources : Sources) (s : LeafSource) (y : ℕ) → source_place sources s ≡ Some y → s ≡ source_of sources y
source_at Inputs (InputOf x) y at = ap InputOf (same_Some x y at)
source_at Inputs (RegisterOf r) y at = absurd (none-some y at)
source_at Registers (InputOf x) y at = absurd (none-some y at)
source_at Registers (RegisterOf r) y at = ap RegisterOf (same_Some r y at)

number_is : (a b : Copy) → nat_eq (copy_number a) (copy_number b) ≡ true → a ≡ b
number_is Before Before same = refl
number_is Before After same = absurd (both_ways false refl same)
number_is Before Changed same = absurd (both_ways false refl same)
number_is After Before same = absurd (both_ways false refl same)
number_is After After same = refl
number_is After Changed same = absurd (both_ways false refl same)
number_is Changed Before same = absurd (both_ways false refl same)
number_is Changed After same = absurd (both_ways false refl same)
number_is Changed Changed same = refl

place_self : (copy : Copy) (sources : Sources) (y : ℕ) → place_in (copy_number copy) sources (shown_leaf (leaf copy (source_of sources y))) ≡ Some y
place_self Before Inputs y = refl
place_self Before Registers y = refl
place_self After Inputs y = refl
place_self After Registers y = refl
place_self Changed Inputs y = refl
place_self Changed Registers y = refl

-- which leaf has a place
placed_leaf : (copy : Copy) (sources : Sources) (l : Leaf) (y : ℕ) → place_in (copy_number copy) sources (shown_leaf l) ≡ Some y → l ≡ leaf copy (source_of sources y)
placed_leaf copy sources l y at = go (nat_eq (copy_number l.copy) (copy_number copy)) refl at
  where
    go : (b : Bool) → nat_eq (copy_number l.copy) (copy_number copy) ≡ b → (if b then source_place sources l.source else None) ≡ Some y → l ≡ leaf copy (source_of sources y)
    go false is h = absurd (none-some y h)
    go true is h = ap (λ c. leaf c l.source) (number_is l.copy copy is) ∙ ap (leaf copy) (source_at sources l.source y h)

module _ (m : MachineData) (good : IsMachine m) (q : Question) where
  abbrev L : List Leaf
  L = leaves_of m q

  -- the literal of a leaf, and 0 where it is none
  abbrev pub value_of : Copy → Sources → ℕ → ℕ
  value_of copy sources y = leaf_value aig_values (leaves_of m q) copy (source_of sources y)

  agrees : (copy : Copy) (sources : Sources) → AgreesLeaves (place_in (copy_number copy) sources) (map shown_leaf L) (value_of copy sources)
  agrees copy sources j y shown at placed =
      let p = mapped shown_leaf L j shown at in
      let e = placed_leaf copy sources p.0 y (ap (place_in (copy_number copy) sources) p.2 ∙ placed) in
      sym (leaf_numbered m q aig_values good j p.0 p.1) ∙ ap (λ (l : Leaf). leaf_value aig_values L l.copy l.source) e

  -- a table of the leaves has the definition's values
  pub table_is : (copy : Copy) (sources : Sources) (values : List ℕ) → FillsLeaves (place_in (copy_number copy) sources) (map shown_leaf L) (length (map shown_leaf L)) values
      → (y : ℕ) → slice_index_or values y 0 ≡ value_of copy sources y
  table_is copy sources values filled y = go (leaf_place L (leaf copy (source_of sources y))) refl
    where
      go : (o : Option ℕ) → leaf_place L (leaf copy (source_of sources y)) ≡ o → slice_index_or values y 0 ≡ value_of copy sources y
      go None is = filled.keeps (value_of copy sources) (agrees copy sources) y (sym (ap (λ o. option_map_or aig_values.leaf o 0) is))
      go (Some k) is =
          filled.fills (value_of copy sources) (agrees copy sources) k y (shown_leaf (leaf copy (source_of sources y)))
          (omega (arith, place_below L (leaf copy (source_of sources y)) k is, length-map L shown_leaf))
          (map_at shown_leaf L k (leaf copy (source_of sources y)) (place_gives L (leaf copy (source_of sources y)) k is)) (place_self copy sources y)

  -- each place is there
  placed_source : (n : ℕ) (sources : Sources) (l : Leaf) (y : ℕ) → place_in n sources (shown_leaf l) ≡ Some y → l.source ≡ source_of sources y
  placed_source n sources l y at = go (nat_eq (copy_number l.copy) n) at
    where
      go : (b : Bool) → (if b then source_place sources l.source else None) ≡ Some y → l.source ≡ source_of sources y
      go false h = absurd (none-some y h)
      go true h = source_at sources l.source y h

  there : (n : ℕ) (sources : Sources) (j y : ℕ) (shown : ShownLeaf) → slice_get (map shown_leaf L) j ≡ Some shown → place_in n sources shown ≡ Some y → is_source m (source_of sources y) ≡ true
  there n sources j y shown at placed =
      let p = mapped shown_leaf L j shown at in
      subst (λ s. is_source m s ≡ true) (placed_source n sources p.0 y (ap (place_in n sources) p.2 ∙ placed)) (leaf_source m q j p.0 p.1)

  pub leaves_placed : AreLeavesPlaced m (map shown_leaf L)
  leaves_placed = record {
    inputs = λ n j y shown at placed. driver_within m.circuit good.well_formed.driven y (given_driver m.circuit y (data_given m.circuit y (there n Inputs j y shown at placed)));
    registers = λ n j y shown at placed. ltb-true y (length m.circuit.registers) (there n Registers j y shown at placed);
  }

  -- a net that is no data input is no leaf
  pub no_input : (copy : Copy) (y : ℕ) → is_in (data_inputs m.circuit) y ≡ false → leaf_value aig_values (leaves_of m q) copy (InputOf y) ≡ 0
  no_input copy y out = go (leaf_place L (leaf copy (InputOf y))) refl
    where
      go : (o : Option ℕ) → leaf_place L (leaf copy (InputOf y)) ≡ o → leaf_value aig_values L copy (InputOf y) ≡ 0
      go None is = ap (λ o. option_map_or aig_values.leaf o 0) is
      go (Some k) is = absurd (both_ways (is_in (data_inputs m.circuit) y) out (leaf_source m q k (leaf copy (InputOf y)) (place_gives L (leaf copy (InputOf y)) k is)))

  -- the literal of a leaf is not the constant 0
  pub leaf_is_some : (copy : Copy) (source : LeafSource) → is_source m source ≡ true → is_reached m q copy source ≡ true → nat_eq (leaf_value aig_values (leaves_of m q) copy source) 0 ≡ false
  leaf_is_some copy source there reached =
      let p = place_there L (leaf copy source) (leaf_among m q copy source there reached) in
      let e : leaf_value aig_values L copy source ≡ 2 * (p.0 + 1) = ap (λ o. option_map_or aig_values.leaf o 0) p.1 in
      elim (cases_Bool (nat_eq (leaf_value aig_values L copy source) 0)) [
        | inl zero_is ↦ absurd (omega (arith, eqb-true (leaf_value aig_values L copy source) 0 zero_is, e))
        | inr other ↦ other
      ]
