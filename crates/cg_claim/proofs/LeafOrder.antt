-- The leaves of a question one by one: those of a copy are its reached inputs and then its reached registers, each by
-- rising places, and each leaf stands there once, so that its number is its place.
use Rattle.std.proofs.Common.{◌≡◌, ℕ, zero, suc, ◌+◌, ◌<◌, Bool, true, false, ◌&&◌, ◌||◌, cond, if◌then◌else◌, List, [], ◌∷◌, ◌++◌}
use Rattle.std.proofs.Common.{map, length, nat_eq, slice_get, Option, Some, None, option_map, refl, sym, ◌∙◌, ap, subst, inl, inr}
use Rattle.std.proofs.Common.{arith}
use Rattle.std.specs.List.{IsDistinct, filter, list_any, range_with_len}
use Rattle.std.specs.Option.{option_map_or, option_to_list}
use Rattle.std.proofs.lemmas.Bool.{and_from, and_parts, both_ways, cases_Bool, or_cases, or_left, or_right}
use Rattle.std.proofs.lemmas.List.{append_assoc}
use Rattle.std.proofs.lemmas.List.Elements.{filter-append}
use Rattle.std.proofs.lemmas.List.Folds.{list_any-append}
use Rattle.std.proofs.lemmas.Option.{none-some, same_Some}
use Rattle.cg_netlist.specs.Circuit.{data_inputs, gater_outputs, register_nets}
use Rattle.cg_net.specs.NetSets.{is_in}
use Rattle.cg_netlist.specs.Moment.{values_at}
use Rattle.cg_net.proofs.Members.{distinct_head, distinct_left, distinct_tail}
use Rattle.cg_netlist.proofs.Driven.{distinct_range}
use Rattle.cg_netlist.proofs.Given.{distinct_given}
use Rattle.cg_machine.specs.Machine.{IsMachine, MachineData}
use Rattle.cg_claim.specs.declared.leaf.LeafSource.{LeafSource}
use Rattle.cg_claim.specs.declared.leaf.LeafSource.TheVariants.{Input as InputOf, Register as RegisterOf}
use Rattle.cg_claim.specs.Build.{Values, leaf_value}
use Rattle.cg_claim.specs.Leaves.{Leaf, is_reached, leaf_place, leaves_at, leaves_of, same_leaf, same_source, sources}
use Rattle.cg_claim.specs.Question.{After, Before, Changed, Copy, Question}
use Rattle.cg_claim.specs.Reach.{registers_of, same_copy}
use Rattle.cg_netlist.proofs.RisingPlaces.{Rises, in_head, places_filter}
use Rattle.cg_claim.proofs.LeavesFound.{copy_is, leaf_is, source_is, source_self}
use Rattle.cg_claim.proofs.Reached.{same_copy_self}
use Rattle.cg_machine.proofs.WalkPlaces.{range_at}

-- the leaf of a source in a copy
abbrev pub leaf : Copy → LeafSource → Leaf
leaf copy source = record { copy = copy; source = source }

filter_map_is : {X Y : Type 0} (test : Y → Bool) (f : X → Y) (xs : List X) → filter test (map f xs) ≡ map f (filter (λ x. test (f x)) xs)
filter_map_is test f [] = refl
filter_map_is test f (x ∷ xs) = ap (λ l. cond (test (f x)) (f x ∷ l) l) (filter_map_is test f xs) ∙ go (test (f x)) (filter (λ x. test (f x)) xs)
  where
    go : (b : Bool) (ys : List _) → cond b (f x ∷ map f ys) (map f ys) ≡ map f (cond b (x ∷ ys) ys)
    go true ys = refl
    go false ys = refl

-- the reached inputs of a copy, and its reached registers
abbrev pub inputs_at : MachineData → Question → Copy → List ℕ
inputs_at m q copy = filter (λ y. is_reached m q copy (InputOf y)) (data_inputs m.circuit)

abbrev pub registers_at : MachineData → Question → Copy → List ℕ
registers_at m q copy = filter (λ r. is_reached m q copy (RegisterOf r)) (registers_of m)

pub leaves_are : (m : MachineData) (q : Question) (copy : Copy) → leaves_at m q copy ≡ map (leaf copy) (map InputOf (inputs_at m q copy) ++ map RegisterOf (registers_at m q copy))
leaves_are m q copy =
    ap (map (leaf copy)) (filter-append (is_reached m q copy) (map InputOf (data_inputs m.circuit)) (map RegisterOf (registers_of m))
    ∙ (ap (λ l. l ++ filter (is_reached m q copy) (map RegisterOf (registers_of m))) (filter_map_is (is_reached m q copy) InputOf (data_inputs m.circuit))
    ∙ ap (λ l. map InputOf (inputs_at m q copy) ++ l) (filter_map_is (is_reached m q copy) RegisterOf (registers_of m))))

-- by places: inputs by their places among the data inputs
pub inputs_by_place : (m : MachineData) (q : Question) (copy : Copy) (places : List ℕ) → Rises 0 places → ((p : ℕ) → is_in places p ≡ true → p < length (data_inputs m.circuit))
    → ((p y : ℕ) → slice_get (data_inputs m.circuit) p ≡ Some y → is_in places p ≡ is_reached m q copy (InputOf y)) → values_at (data_inputs m.circuit) places ≡ inputs_at m q copy
inputs_by_place m q copy places rises within is = places_filter (λ y. is_reached m q copy (InputOf y)) (data_inputs m.circuit) places rises within is

-- a number below n is its own place
range_values : (n : ℕ) (rs : List ℕ) → ((r : ℕ) → is_in rs r ≡ true → r < n) → values_at (range_with_len 0 n) rs ≡ rs
range_values n [] within = refl
range_values n (r ∷ rs) within =
    let e : 0 + r ≡ r = omega arith in
    ap (λ o. cons_of o (values_at (range_with_len 0 n) rs)) (range_at n 0 r (within r (in_head r rs)) ∙ ap Some e)
    ∙ ap (λ l. r ∷ l) (range_values n rs (λ k among. within k (or_right (nat_eq k r) (is_in rs k) among)))
  where
    cons_of : Option ℕ → List ℕ → List ℕ
    cons_of None xs = xs
    cons_of (Some x) xs = x ∷ xs

-- registers by their rising numbers
pub registers_by_number : (m : MachineData) (q : Question) (copy : Copy) (rs : List ℕ) → Rises 0 rs → ((r : ℕ) → is_in rs r ≡ true → r < length m.circuit.registers)
    → ((r : ℕ) → r < length m.circuit.registers → is_in rs r ≡ is_reached m q copy (RegisterOf r)) → rs ≡ registers_at m q copy
registers_by_number m q copy rs rises within is =
    sym (range_values (length m.circuit.registers) rs within)
    ∙ places_filter (λ r. is_reached m q copy (RegisterOf r)) (registers_of m) rs rises
    (λ r among. let n = length_range (length m.circuit.registers) 0 in omega (arith, n, within r among))
    (λ p r at. let n = length_range (length m.circuit.registers) 0 in same p r (below p r at) at)
  where
    length_range : (n a : ℕ) → length (range_with_len a n) ≡ n
    length_range zero a = refl
    length_range (suc n) a = ap suc (length_range n (a + 1))

    below : (p r : ℕ) → slice_get (registers_of m) p ≡ Some r → p < length m.circuit.registers
    below p r at = go (length m.circuit.registers) 0 p at
      where
        go : (n a k : ℕ) → slice_get (range_with_len a n) k ≡ Some r → k < n
        go zero a k h = absurd (none-some r h)
        go (suc n) a zero h = omega arith
        go (suc n) a (suc k) h = let l = go n (a + 1) k h in omega (arith, l)

    same : (p r : ℕ) → p < length m.circuit.registers → slice_get (registers_of m) p ≡ Some r → is_in rs p ≡ is_reached m q copy (RegisterOf r)
    same p r small at =
        let e : 0 + p ≡ p = omega arith in
        let at_p : p ≡ r = sym e ∙ same_Some (0 + p) r (sym (range_at (length m.circuit.registers) 0 p small) ∙ at) in
        is p small ∙ ap (λ k. is_reached m q copy (RegisterOf k)) at_p

-- each leaf differs from those behind it
abbrev pub AreApart : List Leaf → Type 0
AreApart [] = Unit {0}
AreApart (l ∷ leaves) = (list_any (same_leaf l) leaves ≡ false) × AreApart leaves

-- the place of a leaf is the one where it stands, and one that does not stand there has none
pub leaf_self : (l : Leaf) → same_leaf l l ≡ true
leaf_self l = and_from (same_copy l.copy l.copy) (same_source l.source l.source) (same_copy_self l.copy) (source_self l.source)

stands : (leaves : List Leaf) (k : ℕ) (l x : Leaf) → slice_get leaves k ≡ Some l → same_leaf x l ≡ true → list_any (same_leaf x) leaves ≡ true
stands [] k l x at same = absurd (none-some l at)
stands (y ∷ leaves) zero l x at same = or_left (same_leaf x y) (list_any (same_leaf x) leaves) (ap (same_leaf x) (same_Some y l at) ∙ same)
stands (y ∷ leaves) (suc k) l x at same = or_right (same_leaf x y) (list_any (same_leaf x) leaves) (stands leaves k l x at same)

pub place_of : (leaves : List Leaf) (k : ℕ) (l : Leaf) → AreApart leaves → slice_get leaves k ≡ Some l → leaf_place leaves l ≡ Some k
place_of [] k l apart at = absurd (none-some l at)
place_of (x ∷ leaves) zero l apart at = ap (λ b. if b then Some 0 else option_map suc (leaf_place leaves l)) (ap (same_leaf l) (same_Some x l at) ∙ leaf_self l)
place_of (x ∷ leaves) (suc k) l apart at = go (place_of leaves k l apart.1 at) (same_leaf l x) refl
  where
    go : leaf_place leaves l ≡ Some k → (b : Bool) → same_leaf l x ≡ b → (if b then Some 0 else option_map suc (leaf_place leaves l)) ≡ Some (suc k)
    go rest true is = absurd (both_ways (list_any (same_leaf x) leaves) apart.0 (stands leaves k l x at (ap (same_leaf x) (leaf_is l x is) ∙ leaf_self x)))
    go rest false is = ap (option_map suc) rest

pub no_place : (leaves : List Leaf) (l : Leaf) → list_any (same_leaf l) leaves ≡ false → leaf_place leaves l ≡ None
no_place [] l none = refl
no_place (x ∷ leaves) l none = go (same_leaf l x) none (no_place leaves l)
  where
    go : (b : Bool) → (b || list_any (same_leaf l) leaves) ≡ false → (list_any (same_leaf l) leaves ≡ false → leaf_place leaves l ≡ None) → (if b then Some 0 else option_map suc (leaf_place leaves l)) ≡ None
    go true h rest = absurd (both_ways true h refl)
    go false h rest = ap (option_map suc) (rest h)

-- leaves of sources that differ, in one copy
no_source : (copy : Copy) (source : LeafSource) (all : List LeafSource) → list_any (same_source source) all ≡ false → list_any (same_leaf (leaf copy source)) (map (leaf copy) all) ≡ false
no_source copy source [] none = refl
no_source copy source (x ∷ all) none = go (same_source source x) none (no_source copy source all)
  where
    either : (a b : Bool) → b ≡ false → (a && b) ≡ false
    either true b is = is
    either false b is = refl

    go : (b : Bool) → (b || list_any (same_source source) all) ≡ false → (list_any (same_source source) all ≡ false → list_any (same_leaf (leaf copy source)) (map (leaf copy) all) ≡ false)
        → ((same_copy copy copy && b) || list_any (same_leaf (leaf copy source)) (map (leaf copy) all)) ≡ false
    go true h rest = absurd (both_ways true h refl)
    go false h rest = ap (λ b. b || list_any (same_leaf (leaf copy source)) (map (leaf copy) all)) (either (same_copy copy copy) false refl) ∙ rest h

abbrev pub SourcesDiffer : List LeafSource → Type 0
SourcesDiffer [] = Unit {0}
SourcesDiffer (x ∷ all) = (list_any (same_source x) all ≡ false) × SourcesDiffer all

copy_apart : (copy : Copy) (all : List LeafSource) → SourcesDiffer all → AreApart (map (leaf copy) all)
copy_apart copy [] differ = tt
copy_apart copy (x ∷ all) differ = (no_source copy x all differ.0, copy_apart copy all differ.1)

-- nets that differ, as inputs, and numbers that differ, as registers
inputs_none : (y : ℕ) (ys : List ℕ) → is_in ys y ≡ false → list_any (same_source (InputOf y)) (map InputOf ys) ≡ false
inputs_none y [] none = refl
inputs_none y (x ∷ ys) none = go (nat_eq y x) none (inputs_none y ys)
  where
    go : (b : Bool) → (b || is_in ys y) ≡ false → (is_in ys y ≡ false → list_any (same_source (InputOf y)) (map InputOf ys) ≡ false) → (b || list_any (same_source (InputOf y)) (map InputOf ys)) ≡ false
    go true h rest = absurd (both_ways true h refl)
    go false h rest = rest h

registers_none : (y : ℕ) (ys : List ℕ) → is_in ys y ≡ false → list_any (same_source (RegisterOf y)) (map RegisterOf ys) ≡ false
registers_none y [] none = refl
registers_none y (x ∷ ys) none = go (nat_eq y x) none (registers_none y ys)
  where
    go : (b : Bool) → (b || is_in ys y) ≡ false → (is_in ys y ≡ false → list_any (same_source (RegisterOf y)) (map RegisterOf ys) ≡ false) → (b || list_any (same_source (RegisterOf y)) (map RegisterOf ys)) ≡ false
    go true h rest = absurd (both_ways true h refl)
    go false h rest = rest h

input_no_register : (y : ℕ) (rs : List ℕ) → list_any (same_source (InputOf y)) (map RegisterOf rs) ≡ false
input_no_register y [] = refl
input_no_register y (r ∷ rs) = input_no_register y rs

registers_differ : (rs : List ℕ) → IsDistinct nat_eq rs → SourcesDiffer (map RegisterOf rs)
registers_differ [] distinct = tt
registers_differ (r ∷ rs) distinct = (registers_none r rs (distinct_head r rs distinct), registers_differ rs (distinct_tail r rs distinct))

sources_differ : (ys rs : List ℕ) → IsDistinct nat_eq ys → IsDistinct nat_eq rs → SourcesDiffer (map InputOf ys ++ map RegisterOf rs)
sources_differ [] rs inputs registers = registers_differ rs registers
sources_differ (y ∷ ys) rs inputs registers = (
  list_any-append (same_source (InputOf y)) (map InputOf ys) (map RegisterOf rs) ∙ (ap (λ b. b || list_any (same_source (InputOf y)) (map RegisterOf rs)) (inputs_none y ys (distinct_head y ys inputs)) ∙ input_no_register y rs),
  sources_differ ys rs (distinct_tail y ys inputs) registers,
)

differ_filter : (test : LeafSource → Bool) (all : List LeafSource) → SourcesDiffer all → SourcesDiffer (filter test all)
differ_filter test [] differ = tt
differ_filter test (x ∷ all) differ = go (differ_filter test all differ.1) (test x)
  where
    fewer : (ys : List LeafSource) → list_any (same_source x) ys ≡ false → list_any (same_source x) (filter test ys) ≡ false
    fewer [] none = refl
    fewer (y ∷ ys) none = keep (same_source x y) (fewer ys) none (test y) refl
      where
        keep : (b : Bool) → (list_any (same_source x) ys ≡ false → list_any (same_source x) (filter test ys) ≡ false) → (b || list_any (same_source x) ys) ≡ false → (t : Bool) → same_source x y ≡ b
            → list_any (same_source x) (cond t (y ∷ filter test ys) (filter test ys)) ≡ false
        keep true rest h t is = absurd (both_ways true h refl)
        keep false rest h true is = ap (λ b. b || list_any (same_source x) (filter test ys)) is ∙ rest h
        keep false rest h false is = rest h

    go : SourcesDiffer (filter test all) → (b : Bool) → SourcesDiffer (cond b (x ∷ filter test all) (filter test all))
    go rest true = (fewer all differ.0, rest)
    go rest false = rest

-- leaves of another copy differ
other_copy : (copy other : Copy) (source : LeafSource) (all : List LeafSource) → same_copy copy other ≡ false → list_any (same_leaf (leaf copy source)) (map (leaf other) all) ≡ false
other_copy copy other source [] differ = refl
other_copy copy other source (x ∷ all) differ =
    ap (λ b. (b && same_source source x) || list_any (same_leaf (leaf copy source)) (map (leaf other) all)) differ ∙ other_copy copy other source all differ

join_apart : (copy : Copy) (all : List LeafSource) (ys : List Leaf) → SourcesDiffer all → AreApart ys → ((source : LeafSource) → list_any (same_leaf (leaf copy source)) ys ≡ false) → AreApart (map (leaf copy) all ++ ys)
join_apart copy [] ys differ apart none = apart
join_apart copy (x ∷ all) ys differ apart none = (
  list_any-append (same_leaf (leaf copy x)) (map (leaf copy) all) ys ∙ (ap (λ b. b || list_any (same_leaf (leaf copy x)) ys) (no_source copy x all differ.0) ∙ none x),
  join_apart copy all ys differ.1 apart none,
)

module _ (m : MachineData) (q : Question) where
  abbrev at : Copy → List LeafSource
  at copy = filter (is_reached m q copy) (sources m)

  pub leaves_apart : IsMachine m → AreApart (leaves_of m q)
  leaves_apart good =
      let c = m.circuit in
      let inputs : IsDistinct nat_eq (data_inputs c) = distinct_left (data_inputs c) (option_to_list c.clock) (distinct_left (data_inputs c ++ option_to_list c.clock) (gater_outputs c) (distinct_left (data_inputs c ++ option_to_list c.clock ++ gater_outputs c) (register_nets c) (distinct_given c good.well_formed.driven))) in
      let all : SourcesDiffer (sources m) = sources_differ (data_inputs c) (registers_of m) inputs (distinct_range (length c.registers) 0) in
      let differ : (copy : Copy) → SourcesDiffer (at copy) = λ copy. differ_filter (is_reached m q copy) (sources m) all in
      let last : AreApart (leaves_at m q Changed) = copy_apart Changed (at Changed) (differ Changed) in
      let two : AreApart (leaves_at m q After ++ leaves_at m q Changed) = join_apart After (at After) (leaves_at m q Changed) (differ After) last (λ source. other_copy After Changed source (at Changed) refl) in
      let three : AreApart (leaves_at m q Before ++ (leaves_at m q After ++ leaves_at m q Changed)) = join_apart Before (at Before) (leaves_at m q After ++ leaves_at m q Changed) (differ Before) two
      (λ source. list_any-append (same_leaf (leaf Before source)) (leaves_at m q After) (leaves_at m q Changed)
      ∙ (ap (λ b. b || list_any (same_leaf (leaf Before source)) (leaves_at m q Changed)) (other_copy Before After source (at After) refl) ∙ other_copy Before Changed source (at Changed) refl)) in
      subst AreApart (sym (append_assoc (leaves_at m q Before) (leaves_at m q After) (leaves_at m q Changed))) three

  -- the value of the leaf at place k is that of leaf k
  pub leaf_numbered : (d : Values) → IsMachine m → (k : ℕ) (l : Leaf) → slice_get (leaves_of m q) k ≡ Some l → leaf_value d (leaves_of m q) l.copy l.source ≡ d.leaf k
  leaf_numbered d good k l at_k = ap (λ o. option_map_or d.leaf o 0) (place_of (leaves_of m q) k l (leaves_apart good) at_k)

  -- and what is not reached has the value 0
  among_at : (copy other : Copy) (source : LeafSource) (test : LeafSource → Bool) (all : List LeafSource) → list_any (same_leaf (leaf copy source)) (map (leaf other) (filter test all)) ≡ true
      → (same_copy copy other ≡ true) × (test source ≡ true)
  among_at copy other source test [] among = absurd (both_ways false refl among)
  among_at copy other source test (x ∷ all) among = go (among_at copy other source test all) (test x) refl among
    where
      go : (list_any (same_leaf (leaf copy source)) (map (leaf other) (filter test all)) ≡ true → (same_copy copy other ≡ true) × (test source ≡ true))
          → (b : Bool) → test x ≡ b → list_any (same_leaf (leaf copy source)) (map (leaf other) (cond b (x ∷ filter test all) (filter test all))) ≡ true → (same_copy copy other ≡ true) × (test source ≡ true)
      go rest false is h = rest h
      go rest true is h = elim (or_cases (same_copy copy other && same_source source x) (list_any (same_leaf (leaf copy source)) (map (leaf other) (filter test all))) h) [
        | inl here ↦ let p = and_parts (same_copy copy other) (same_source source x) here in (p.0, ap test (source_is source x p.1) ∙ is)
        | inr later ↦ rest later
      ]

  pub unreached_none : (copy : Copy) (source : LeafSource) → is_reached m q copy source ≡ false → list_any (same_leaf (leaf copy source)) (leaves_of m q) ≡ false
  unreached_none copy source none = elim (cases_Bool (list_any (same_leaf (leaf copy source)) (leaves_of m q))) [
    | inr out ↦ out
    | inl among ↦ absurd (both_ways (is_reached m q copy source) none (found among))
  ]
    where
      in_copy : (other : Copy) → list_any (same_leaf (leaf copy source)) (leaves_at m q other) ≡ true → is_reached m q copy source ≡ true
      in_copy other h =
          let p = among_at copy other source (is_reached m q other) (sources m) h in
          subst (λ c. is_reached m q c source ≡ true) (sym (copy_is copy other p.0)) p.1

      found : list_any (same_leaf (leaf copy source)) (leaves_of m q) ≡ true → is_reached m q copy source ≡ true
      found h =
          let l = leaf copy source in
          elim (or_cases (list_any (same_leaf l) (leaves_at m q Before ++ leaves_at m q After)) (list_any (same_leaf l) (leaves_at m q Changed))
          (sym (list_any-append (same_leaf l) (leaves_at m q Before ++ leaves_at m q After) (leaves_at m q Changed)) ∙ h)) [
            | inr changed ↦ in_copy Changed changed
            | inl early ↦ elim (or_cases (list_any (same_leaf l) (leaves_at m q Before)) (list_any (same_leaf l) (leaves_at m q After))
                (sym (list_any-append (same_leaf l) (leaves_at m q Before) (leaves_at m q After)) ∙ early)) [
                  | inl before ↦ in_copy Before before
                  | inr after ↦ in_copy After after
                ]
          ]

  pub leaf_unreached : (d : Values) (copy : Copy) (source : LeafSource) → is_reached m q copy source ≡ false → leaf_value d (leaves_of m q) copy source ≡ 0
  leaf_unreached d copy source none = ap (λ o. option_map_or d.leaf o 0) (no_place (leaves_of m q) (leaf copy source) (unreached_none copy source none))
