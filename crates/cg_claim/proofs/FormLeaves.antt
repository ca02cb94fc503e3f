-- Leaves among leaves: one that is found is the same, it has the bit that it is given, and what is a leaf is among the leaves of its
-- question.
use Rattle.std.proofs.Common.{◌≡◌, ℕ, zero, suc, ◌+◌, ◌<◌, ◌≤◌, Bool, true, false, ◌&&◌, ◌||◌, cond, if◌then◌else◌, List, [], ◌∷◌, ◌++◌, map}
use Rattle.std.proofs.Common.{length, nat_eq, slice_index_or, Option, None, Some, option_map, refl, sym, ◌∙◌, ap, subst, arith, ◌⊎◌, inl, inr}
use Rattle.std.specs.List.{filter, flat_map, list_any, range_with_len}
use Rattle.std.specs.Option.{option_map_or}
use Rattle.std.proofs.lemmas.Bool.{and_parts, both_ways, eq-eqb, eqb-false, eqb-true, ltb-true, or_cases, or_left, or_right}
use Rattle.std.proofs.lemmas.Option.{same_Some}
use Rattle.cg_net.specs.NetSets.{is_in}
use Rattle.cg_net.proofs.Members.{is_in_left, is_in_right}
use Rattle.cg_netlist.specs.Circuit.{data_inputs}
use Rattle.cg_netlist.proofs.Filtered.{range_in}
use Rattle.cg_machine.specs.Machine.{MachineData}
use Rattle.cg_claim.specs.Reach.{registers_of}
use Rattle.cg_claim.specs.declared.leaf.LeafSource.TheVariants.{Input, Register}
use Rattle.cg_claim.specs.Leaves.{is_source, same_source}
use Rattle.cg_claim.specs.Question.{CopyPart, idle_question}
use Rattle.cg_claim.specs.declared.leaf.Leaf.{Leaf}
use Rattle.cg_claim.specs.declared.leaf.LeafSource.{LeafSource}
use Rattle.cg_claim.proofs.LeavesFound.{source_among, source_is}
use Rattle.cg_claim.specs.form.Leaves.{is_cut, is_leaf, is_other_leaf, leaf_place, leaves_at, leaves_of, same_leaf, cut_sources, with_other}
use Rattle.cg_claim.specs.form.Question.{Changes, Ends, Question, Shows}

pub place_below : (leaves : List Leaf) (l : Leaf) (k : ℕ) → leaf_place leaves l ≡ Some k → k < length leaves
place_below [] l k at = absurd (cc)
place_below (x ∷ leaves) l k at = go (place_below leaves l) (same_leaf l x) at
  where
    later : ((j : ℕ) → leaf_place leaves l ≡ Some j → j < length leaves) → (o : Option ℕ) → leaf_place leaves l ≡ o → option_map suc o ≡ Some k → k < suc (length leaves)
    later known None is e = absurd (cc)
    later known (Some j) is e = let f : suc j ≡ k = same_Some (suc j) k e in omega (arith, known j is)

    go : ((j : ℕ) → leaf_place leaves l ≡ Some j → j < length leaves) → (b : Bool) → (if b then Some 0 else option_map suc (leaf_place leaves l)) ≡ Some k → k < suc (length leaves)
    go known true e = let f : 0 ≡ k = same_Some 0 k e in omega arith
    go known false e = later known (leaf_place leaves l) refl e

leaf_is : (l k : Leaf) → same_leaf l k ≡ true → l ≡ k
leaf_is l k h =
    let p = and_parts (nat_eq l.copy k.copy) (same_source l.source k.source) h in
    let c : l.copy ≡ k.copy = eqb-true l.copy k.copy p.0 in
    let s : l.source ≡ k.source = source_is l.source k.source p.1 in
    let F : ℕ → LeafSource → Leaf = λ a b. record { copy = a; source = b } in
    ap (λ a. F a l.source) c ∙ ap (λ b. F k.copy b) s

-- a leaf among leaves has the bit that it is given
pub found_bit : (f : Leaf → Bool) (leaves : List Leaf) (l : Leaf) → list_any (same_leaf l) leaves ≡ true → option_map_or (λ k. slice_index_or (map f leaves) k false) (leaf_place leaves l) false ≡ f l
found_bit f [] l among = absurd (both_ways false refl among)
found_bit f (x ∷ leaves) l among = go (found_bit f leaves l) (same_leaf l x) refl among
  where
    later : (o : Option ℕ) → option_map_or (λ k. slice_index_or (map f leaves) k false) o false ≡ option_map_or (λ k. slice_index_or (f x ∷ map f leaves) k false) (option_map suc o) false
    later None = refl
    later (Some j) = refl

    go : (list_any (same_leaf l) leaves ≡ true → option_map_or (λ k. slice_index_or (map f leaves) k false) (leaf_place leaves l) false ≡ f l) → (b : Bool) → same_leaf l x ≡ b → (b || list_any (same_leaf l) leaves) ≡ true
        → option_map_or (λ k. slice_index_or (f x ∷ map f leaves) k false) (if b then Some 0 else option_map suc (leaf_place leaves l)) false ≡ f l
    go known true is inside = ap f (sym (leaf_is l x is))
    go known false is inside = sym (later (leaf_place leaves l)) ∙ known inside

any_left : (l : Leaf) (xs ys : List Leaf) → list_any (same_leaf l) xs ≡ true → list_any (same_leaf l) (xs ++ ys) ≡ true
any_left l [] ys h = absurd (both_ways false refl h)
any_left l (x ∷ xs) ys h = elim (or_cases (same_leaf l x) (list_any (same_leaf l) xs) h) [
  | inl a ↦ or_left (same_leaf l x) (list_any (same_leaf l) (xs ++ ys)) a
  | inr b ↦ or_right (same_leaf l x) (list_any (same_leaf l) (xs ++ ys)) (any_left l xs ys b)
]

any_right : (l : Leaf) (xs ys : List Leaf) → list_any (same_leaf l) ys ≡ true → list_any (same_leaf l) (xs ++ ys) ≡ true
any_right l [] ys h = h
any_right l (x ∷ xs) ys h = or_right (same_leaf l x) (list_any (same_leaf l) (xs ++ ys)) (any_right l xs ys h)

-- a source that passes a test is among those of a cycle
in_leaves : (test : LeafSource → Bool) (i : ℕ) (source : LeafSource) (all : List LeafSource) → list_any (same_source source) all ≡ true → test source ≡ true
    → list_any (same_leaf (record { copy = i; source = source })) (map (λ s. record { copy = i; source = s }) (filter test all)) ≡ true
in_leaves test i source [] among passes = absurd (both_ways false refl among)
in_leaves test i source (x ∷ all) among passes = go (λ there. in_leaves test i source all there passes) (test x) refl (or_cases (same_source source x) (list_any (same_source source) all) among)
  where
    self : same_source source x ≡ true → same_leaf (record { copy = i; source = source }) (record { copy = i; source = x }) ≡ true
    self h = ap (λ b. b && same_source source x) (eq-eqb i i refl) ∙ h

    go : (list_any (same_source source) all ≡ true → list_any (same_leaf (record { copy = i; source = source })) (map (λ s. record { copy = i; source = s }) (filter test all)) ≡ true) → (b : Bool) → test x ≡ b → (same_source source x ≡ true) ⊎ (list_any (same_source source) all ≡ true)
        → list_any (same_leaf (record { copy = i; source = source })) (map (λ s. record { copy = i; source = s }) (cond b (x ∷ filter test all) (filter test all))) ≡ true
    go known true is (inl here) = or_left (same_leaf (record { copy = i; source = source }) (record { copy = i; source = x })) (list_any (same_leaf (record { copy = i; source = source })) (map (λ s. record { copy = i; source = s }) (filter test all))) (self here)
    go known true is (inr there) = or_right (same_leaf (record { copy = i; source = source }) (record { copy = i; source = x })) (list_any (same_leaf (record { copy = i; source = source })) (map (λ s. record { copy = i; source = s }) (filter test all))) (known there)
    go known false is (inl here) = absurd (both_ways (test x) is (subst (λ s. test s ≡ true) (source_is source x here) passes))
    go known false is (inr there) = known there

-- what is in a list of a range is in all of them together
in_range : (f : ℕ → List Leaf) (l : Leaf) (n a i : ℕ) → a ≤ i → i < a + n → list_any (same_leaf l) (f i) ≡ true → list_any (same_leaf l) (flat_map f (range_with_len a n)) ≡ true
in_range f l zero a i low high h = absurd (omega (arith, low, high))
in_range f l (suc n) a i low high h = go (λ past. in_range f l n (a + 1) i past (omega (arith, high)) h) (nat_eq a i) refl
  where
    go : (a + 1 ≤ i → list_any (same_leaf l) (flat_map f (range_with_len (a + 1) n)) ≡ true) → (b : Bool) → nat_eq a i ≡ b → list_any (same_leaf l) (f a ++ flat_map f (range_with_len (a + 1) n)) ≡ true
    go later true is = any_left l (f a) (flat_map f (range_with_len (a + 1) n)) (subst (λ k. list_any (same_leaf l) (f k) ≡ true) (sym (eqb-true a i is)) h)
    go later false is = let other = eqb-false a i is in any_right l (f a) (flat_map f (range_with_len (a + 1) n)) (later (omega (arith, low, other)))

-- what is a leaf of a cycle is among the leaves of its question
pub leaf_among : (m : MachineData) (q : Question) (i : ℕ) → i ≤ q.after → (source : LeafSource) → list_any (same_source source) (cut_sources m q.cut) ≡ true → is_leaf m q i source ≡ true
    → list_any (same_leaf (record { copy = i; source = source })) (leaves_of m q) ≡ true
leaf_among m q i inside source among reached = go q.ends
  where
    there : list_any (same_leaf (record { copy = i; source = source })) (flat_map (leaves_at m q) (range_with_len 0 (q.after + 1))) ≡ true
    there =
        in_range (leaves_at m q) (record { copy = i; source = source }) (q.after + 1) 0 i (omega arith) (omega (arith, inside))
        (in_leaves (is_leaf m q i) i source (cut_sources m q.cut) among reached)

    go : (e : Ends) → list_any (same_leaf (record { copy = i; source = source })) (with_other m q e (flat_map (leaves_at m q) (range_with_len 0 (q.after + 1)))) ≡ true
    go (Changes register) = there
    go (Shows part G) = any_left (record { copy = i; source = source }) (flat_map (leaves_at m q) (range_with_len 0 (q.after + 1))) (map (λ s. record { copy = suc q.after; source = s }) (filter (is_other_leaf m q G) (cut_sources m q.cut))) there

-- and so is what is one of the last cycle with other bits
pub other_among : (m : MachineData) (q : Question) (part : CopyPart) (G : List ℕ) → q.ends ≡ Shows part G → (source : LeafSource) → list_any (same_source source) (cut_sources m q.cut) ≡ true → is_other_leaf m q G source ≡ true
    → list_any (same_leaf (record { copy = suc q.after; source = source })) (leaves_of m q) ≡ true
other_among m q part G ends source among reached =
    subst (λ e. list_any (same_leaf (record { copy = suc q.after; source = source })) (with_other m q e (flat_map (leaves_at m q) (range_with_len 0 (q.after + 1)))) ≡ true) (sym ends)
    (any_right (record { copy = suc q.after; source = source }) (flat_map (leaves_at m q) (range_with_len 0 (q.after + 1))) (map (λ s. record { copy = suc q.after; source = s }) (filter (is_other_leaf m q G) (cut_sources m q.cut)))
    (in_leaves (is_other_leaf m q G) (suc q.after) source (cut_sources m q.cut) among reached))

-- with a cut its nets stand behind the data inputs
any_before : (test : LeafSource → Bool) (xs ys : List LeafSource) → list_any test xs ≡ true → list_any test (xs ++ ys) ≡ true
any_before test [] ys h = absurd (both_ways false refl h)
any_before test (x ∷ xs) ys h = elim (or_cases (test x) (list_any test xs) h) [
  | inl a ↦ or_left (test x) (list_any test (xs ++ ys)) a
  | inr b ↦ or_right (test x) (list_any test (xs ++ ys)) (any_before test xs ys b)
]

any_behind : (test : LeafSource → Bool) (xs ys : List LeafSource) → list_any test ys ≡ true → list_any test (xs ++ ys) ≡ true
any_behind test [] ys h = h
any_behind test (x ∷ xs) ys h = or_right (test x) (list_any test (xs ++ ys)) (any_behind test xs ys h)

input_in : (ys : List ℕ) (y : ℕ) → is_in ys y ≡ true → list_any (same_source (Input y)) (map Input ys) ≡ true
input_in [] y among = among
input_in (x ∷ ys) y among = elim (or_cases (nat_eq y x) (is_in ys y) among) [
  | inl a ↦ or_left (nat_eq y x) (list_any (same_source (Input y)) (map Input ys)) a
  | inr b ↦ or_right (nat_eq y x) (list_any (same_source (Input y)) (map Input ys)) (input_in ys y b)
]

register_in : (rs : List ℕ) (r : ℕ) → is_in rs r ≡ true → list_any (same_source (Register r)) (map Register rs) ≡ true
register_in [] r among = among
register_in (x ∷ rs) r among = elim (or_cases (nat_eq r x) (is_in rs r) among) [
  | inl a ↦ or_left (nat_eq r x) (list_any (same_source (Register r)) (map Register rs)) a
  | inr b ↦ or_right (nat_eq r x) (list_any (same_source (Register r)) (map Register rs)) (register_in rs r b)
]

pub cut_net_in : (m : MachineData) (cut : Option (List ℕ)) (y : ℕ) → is_cut cut y ≡ true → list_any (same_source (Input y)) (cut_sources m cut) ≡ true
cut_net_in m None y is = absurd (both_ways false refl is)
cut_net_in m (Some cut) y is =
    any_before (same_source (Input y)) (map Input (data_inputs m.circuit ++ cut)) (map Register (registers_of m))
    (input_in (data_inputs m.circuit ++ cut) y (is_in_right (data_inputs m.circuit) cut y is))

-- and the sources of the machine stay
pub source_in : (m : MachineData) (cut : Option (List ℕ)) (source : LeafSource) → is_source m source ≡ true → list_any (same_source source) (cut_sources m cut) ≡ true
source_in m None source is = source_among m (idle_question []) source is
source_in m (Some cut) (Input y) is =
    any_before (same_source (Input y)) (map Input (data_inputs m.circuit ++ cut)) (map Register (registers_of m))
    (input_in (data_inputs m.circuit ++ cut) y (is_in_left (data_inputs m.circuit) cut y is))
source_in m (Some cut) (Register r) is =
    let below : r < length m.circuit.registers = ltb-true r (length m.circuit.registers) is in
    let zero_r : 0 + r ≡ r = omega arith in
    any_behind (same_source (Register r)) (map Input (data_inputs m.circuit ++ cut)) (map Register (registers_of m))
    (register_in (registers_of m) r (subst (λ k. is_in (registers_of m) k ≡ true) zero_r (range_in (length m.circuit.registers) 0 r below)))
