-- Leaves among leaves: one that is found is the same, it has the bit that it is given, and what is reached is among the
-- leaves of its question.
use Rattle.std.proofs.Common.{◌≡◌, ℕ, suc, ◌+◌, ◌<◌, Bool, true, false, ◌&&◌, ◌||◌, cond, if◌then◌else◌, List, [], ◌∷◌, ◌++◌, map}
use Rattle.std.proofs.Common.{length, nat_eq, slice_index_or, Option, None, Some, option_map, refl, sym, ◌∙◌, ap, subst, arith, ◌⊎◌}
use Rattle.std.proofs.Common.{inl, inr}
use Rattle.std.specs.List.{filter, list_any}
use Rattle.std.specs.Option.{option_map_or}
use Rattle.std.proofs.lemmas.Bool.{and_parts, both_ways, eq-eqb, eqb-true, ltb-true, or_cases, or_left, or_right}
use Rattle.std.proofs.lemmas.Option.{same_Some}
use Rattle.cg_netlist.specs.Circuit.{data_inputs}
use Rattle.cg_net.specs.NetSets.{is_in}
use Rattle.cg_machine.specs.Machine.{MachineData}
use Rattle.cg_claim.specs.Leaves.{is_source, Leaf, is_reached, leaf_place, leaves_at, leaves_of, same_leaf, same_source, sources}
use Rattle.cg_claim.specs.Question.{Copy, Before, After, Changed, Question}
use Rattle.cg_claim.specs.Reach.{registers_of, same_copy}
use Rattle.cg_claim.specs.declared.leaf.LeafSource.{LeafSource}
use Rattle.cg_claim.specs.declared.leaf.LeafSource.TheVariants.{Input as InputOf, Register as RegisterOf}
use Rattle.cg_claim.proofs.Reached.{same_copy_self}
use Rattle.cg_netlist.proofs.Filtered.{range_in}

pub place_below : (leaves : List Leaf) (l : Leaf) (k : ℕ) → leaf_place leaves l ≡ Some k → k < length leaves
place_below [] l k at = absurd (cc)
place_below (x ∷ leaves) l k at = go (place_below leaves l) (same_leaf l x) at
  where
    later : ((j : ℕ) → leaf_place leaves l ≡ Some j → j < length leaves) → (o : Option ℕ) → leaf_place leaves l ≡ o → option_map suc o ≡ Some k → k < suc (length leaves)
    later known None is e = absurd (cc)
    later known (Some j) is e = let f : suc j ≡ k = same_Some (suc j) k e in omega (arith, known j is)

    go : ((j : ℕ) → leaf_place leaves l ≡ Some j → j < length leaves) → (b : Bool) → (if b then Some 0 else option_map suc (leaf_place leaves l)) ≡ Some k → k < suc (length leaves)
    go known true e = let f : 0 ≡ k = same_Some 0 k e in omega arith
    go known false e = later known (leaf_place leaves l) refl e

-- leaves that are found are the same
pub copy_is : (a b : Copy) → same_copy a b ≡ true → a ≡ b
copy_is Before Before h = refl
copy_is After After h = refl
copy_is Changed Changed h = refl
copy_is Before After h = absurd (both_ways false refl h)
copy_is Before Changed h = absurd (both_ways false refl h)
copy_is After Before h = absurd (both_ways false refl h)
copy_is After Changed h = absurd (both_ways false refl h)
copy_is Changed Before h = absurd (both_ways false refl h)
copy_is Changed After h = absurd (both_ways false refl h)

pub source_is : (a b : LeafSource) → same_source a b ≡ true → a ≡ b
source_is (InputOf x) (InputOf y) h = ap InputOf (eqb-true x y h)
source_is (RegisterOf x) (RegisterOf y) h = ap RegisterOf (eqb-true x y h)
source_is (InputOf x) (RegisterOf y) h = absurd (both_ways false refl h)
source_is (RegisterOf x) (InputOf y) h = absurd (both_ways false refl h)

pub source_self : (a : LeafSource) → same_source a a ≡ true
source_self (InputOf x) = eq-eqb x x refl
source_self (RegisterOf x) = eq-eqb x x refl

pub leaf_is : (l k : Leaf) → same_leaf l k ≡ true → l ≡ k
leaf_is l k h =
    let p = and_parts (same_copy l.copy k.copy) (same_source l.source k.source) h in
    let c : l.copy ≡ k.copy = copy_is l.copy k.copy p.0 in
    let s : l.source ≡ k.source = source_is l.source k.source p.1 in
    let F : Copy → LeafSource → Leaf = λ a b. record { copy = a; source = b } in
    ap (λ a. F a l.source) c ∙ ap (λ b. F k.copy b) s

-- a leaf among leaves has the bit that it is given
pub found_bit : (f : Leaf → Bool) (leaves : List Leaf) (l : Leaf) → list_any (same_leaf l) leaves ≡ true → option_map_or (λ k. slice_index_or (map f leaves) k false) (leaf_place leaves l) false ≡ f l
found_bit f [] l among = absurd (both_ways false refl among)
found_bit f (x ∷ leaves) l among = go (found_bit f leaves l) (same_leaf l x) refl among
  where
    later : (o : Option ℕ) → option_map_or (λ k. slice_index_or (map f leaves) k false) o false ≡ option_map_or (λ k. slice_index_or (f x ∷ map f leaves) k false) (option_map suc o) false
    later None = refl
    later (Some j) = refl

    go : (list_any (same_leaf l) leaves ≡ true → option_map_or (λ k. slice_index_or (map f leaves) k false) (leaf_place leaves l) false ≡ f l) → (b : Bool) → same_leaf l x ≡ b → (b || list_any (same_leaf l) leaves) ≡ true
        → option_map_or (λ k. slice_index_or (f x ∷ map f leaves) k false) (if b then Some 0 else option_map suc (leaf_place leaves l)) false ≡ f l
    go known true is inside = ap f (sym (leaf_is l x is))
    go known false is inside = sym (later (leaf_place leaves l)) ∙ known inside

pub any_left : (l : Leaf) (xs ys : List Leaf) → list_any (same_leaf l) xs ≡ true → list_any (same_leaf l) (xs ++ ys) ≡ true
any_left l [] ys h = absurd (both_ways false refl h)
any_left l (x ∷ xs) ys h = elim (or_cases (same_leaf l x) (list_any (same_leaf l) xs) h) [
  | inl a ↦ or_left (same_leaf l x) (list_any (same_leaf l) (xs ++ ys)) a
  | inr b ↦ or_right (same_leaf l x) (list_any (same_leaf l) (xs ++ ys)) (any_left l xs ys b)
]

pub any_right : (l : Leaf) (xs ys : List Leaf) → list_any (same_leaf l) ys ≡ true → list_any (same_leaf l) (xs ++ ys) ≡ true
any_right l [] ys h = h
any_right l (x ∷ xs) ys h = or_right (same_leaf l x) (list_any (same_leaf l) (xs ++ ys)) (any_right l xs ys h)

-- a source that passes a test is among those of a copy
pub in_leaves : (test : LeafSource → Bool) (copy : Copy) (source : LeafSource) (all : List LeafSource) → list_any (same_source source) all ≡ true → test source ≡ true
    → list_any (same_leaf (record { copy = copy; source = source })) (map (λ s. record { copy = copy; source = s }) (filter test all)) ≡ true
in_leaves test copy source [] among passes = absurd (both_ways false refl among)
in_leaves test copy source (x ∷ all) among passes = go (λ there. in_leaves test copy source all there passes) (test x) refl (or_cases (same_source source x) (list_any (same_source source) all) among)
  where
    self : same_source source x ≡ true → same_leaf (record { copy = copy; source = source }) (record { copy = copy; source = x }) ≡ true
    self h = ap (λ b. b && same_source source x) (same_copy_self copy) ∙ h

    go : (list_any (same_source source) all ≡ true → list_any (same_leaf (record { copy = copy; source = source })) (map (λ s. record { copy = copy; source = s }) (filter test all)) ≡ true) → (b : Bool) → test x ≡ b → (same_source source x ≡ true) ⊎ (list_any (same_source source) all ≡ true)
        → list_any (same_leaf (record { copy = copy; source = source })) (map (λ s. record { copy = copy; source = s }) (cond b (x ∷ filter test all) (filter test all))) ≡ true
    go known true is (inl here) = or_left (same_leaf (record { copy = copy; source = source }) (record { copy = copy; source = x })) (list_any (same_leaf (record { copy = copy; source = source })) (map (λ s. record { copy = copy; source = s }) (filter test all))) (self here)
    go known true is (inr there) = or_right (same_leaf (record { copy = copy; source = source }) (record { copy = copy; source = x })) (list_any (same_leaf (record { copy = copy; source = source })) (map (λ s. record { copy = copy; source = s }) (filter test all))) (known there)
    go known false is (inl here) = absurd (both_ways (test x) is (subst (λ s. test s ≡ true) (source_is source x here) passes))
    go known false is (inr there) = known there

source_left : (s : LeafSource) (xs ys : List LeafSource) → list_any (same_source s) xs ≡ true → list_any (same_source s) (xs ++ ys) ≡ true
source_left s [] ys h = absurd (both_ways false refl h)
source_left s (x ∷ xs) ys h = elim (or_cases (same_source s x) (list_any (same_source s) xs) h) [
  | inl a ↦ or_left (same_source s x) (list_any (same_source s) (xs ++ ys)) a
  | inr b ↦ or_right (same_source s x) (list_any (same_source s) (xs ++ ys)) (source_left s xs ys b)
]

source_right : (s : LeafSource) (xs ys : List LeafSource) → list_any (same_source s) ys ≡ true → list_any (same_source s) (xs ++ ys) ≡ true
source_right s [] ys h = h
source_right s (x ∷ xs) ys h = or_right (same_source s x) (list_any (same_source s) (xs ++ ys)) (source_right s xs ys h)

inputs_among : (y : ℕ) (ys : List ℕ) → is_in ys y ≡ true → list_any (same_source (InputOf y)) (map InputOf ys) ≡ true
inputs_among y [] h = h
inputs_among y (x ∷ ys) h = elim (or_cases (nat_eq y x) (is_in ys y) h) [
  | inl a ↦ or_left (nat_eq y x) (list_any (same_source (InputOf y)) (map InputOf ys)) a
  | inr b ↦ or_right (nat_eq y x) (list_any (same_source (InputOf y)) (map InputOf ys)) (inputs_among y ys b)
]

registers_among : (y : ℕ) (ys : List ℕ) → is_in ys y ≡ true → list_any (same_source (RegisterOf y)) (map RegisterOf ys) ≡ true
registers_among y [] h = h
registers_among y (x ∷ ys) h = elim (or_cases (nat_eq y x) (is_in ys y) h) [
  | inl a ↦ or_left (nat_eq y x) (list_any (same_source (RegisterOf y)) (map RegisterOf ys)) a
  | inr b ↦ or_right (nat_eq y x) (list_any (same_source (RegisterOf y)) (map RegisterOf ys)) (registers_among y ys b)
]

module _ (m : MachineData) (q : Question) where
  pub source_among : (source : LeafSource) → is_source m source ≡ true → list_any (same_source source) (sources m) ≡ true
  source_among (InputOf y) is = source_left (InputOf y) (map InputOf (data_inputs m.circuit)) (map RegisterOf (registers_of m)) (inputs_among y (data_inputs m.circuit) is)
  source_among (RegisterOf r) is =
      let zero_r : 0 + r ≡ r = omega arith in
      source_right (RegisterOf r) (map InputOf (data_inputs m.circuit)) (map RegisterOf (registers_of m)) (registers_among r (registers_of m)
      (subst (λ k. is_in (registers_of m) k ≡ true) zero_r (range_in (length m.circuit.registers) 0 r (ltb-true r (length m.circuit.registers) is))))

  pub leaf_among : (copy : Copy) (source : LeafSource) → is_source m source ≡ true → is_reached m q copy source ≡ true → list_any (same_leaf (record { copy = copy; source = source })) (leaves_of m q) ≡ true
  leaf_among copy source is reached = go copy (in_leaves (is_reached m q copy) copy source (sources m) (source_among source is) reached)
    where
      go : (c : Copy) → list_any (same_leaf (record { copy = copy; source = source })) (leaves_at m q c) ≡ true → list_any (same_leaf (record { copy = copy; source = source })) (leaves_of m q) ≡ true
      go Before h = any_left _ (leaves_at m q Before ++ leaves_at m q After) (leaves_at m q Changed) (any_left _ (leaves_at m q Before) (leaves_at m q After) h)
      go After h = any_left _ (leaves_at m q Before ++ leaves_at m q After) (leaves_at m q Changed) (any_right _ (leaves_at m q Before) (leaves_at m q After) h)
      go Changed h = any_right _ (leaves_at m q Before ++ leaves_at m q After) (leaves_at m q Changed) h
