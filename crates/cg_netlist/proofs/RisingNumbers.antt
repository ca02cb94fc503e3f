-- Numbers that rise and have the members of a list are those of a range that it has.
use Rattle.std.proofs.Common.{◌≡◌, ℕ, zero, suc, ◌+◌, ◌<◌, ◌≤◌, Bool, true, false, ◌||◌, cond, List, [], ◌∷◌, length, nat_eq}
use Rattle.std.proofs.Common.{slice_index_or, refl, sym, ◌∙◌, ap, subst, arith}
use Rattle.std.specs.List.{dedup, dedup_from, filter, range_with_len}
use Rattle.std.specs.List.Sorted.{IsPermutation, IsSorted}
use Rattle.std.specs.Ordering.{nat_cmp}
use Rattle.std.proofs.lemmas.List.Kept.{AllPairs-from_increasing}
use Rattle.std.proofs.lemmas.List.Sorted.{list_any-IsPermutation}
use Rattle.std.proofs.lemmas.Map.Keys.{IsStrictlyIncreasing-dedup}
use Rattle.std.proofs.lemmas.Bool.{eqb-true}
use Rattle.cg_net.specs.NetSets.{is_in}
use Rattle.cg_netlist.proofs.Filtered.{in_filter, range_in, to_filter}
use Rattle.cg_netlist.specs.inner.Rising.{Rises}
use Rattle.cg_netlist.proofs.RisingPlaces.{rising_same}
use Rattle.std.specs.Cmp.{both_ways as same_truth}

pub rises_later : (a b : ℕ) (xs : List ℕ) → b ≤ a → Rises a xs → Rises b xs
rises_later a b [] h rises = tt
rises_later a b (x ∷ xs) h rises = (omega (arith, h, rises.0), rises.1)

-- what passes of a range rises
pub range_rises : (test : ℕ → Bool) (n a : ℕ) → Rises a (filter test (range_with_len a n))
range_rises test zero a = tt
range_rises test (suc n) a =
    let e : a + 1 ≡ suc a = omega arith in
    go (subst (λ b. Rises b (filter test (range_with_len (a + 1) n))) e (range_rises test n (a + 1))) (test a)
  where
    go : Rises (suc a) (filter test (range_with_len (a + 1) n)) → (b : Bool) → Rises a (cond b (a ∷ filter test (range_with_len (a + 1) n)) (filter test (range_with_len (a + 1) n)))
    go next true = (omega arith, next)
    go next false = rises_later (suc a) a (filter test (range_with_len (a + 1) n)) (omega arith) next

-- numbers that rise are what a range has of them
pub rising_range : (xs ys : List ℕ) (n : ℕ) → Rises 0 ys → ((x : ℕ) → is_in ys x ≡ is_in xs x) → ((x : ℕ) → is_in xs x ≡ true → x < n) → ys ≡ filter (is_in xs) (range_with_len 0 n)
rising_range xs ys n rises members below =
    rising_same ys (filter (is_in xs) (range_with_len 0 n)) 0 0 rises (range_rises (is_in xs) n 0) (λ x.
    same_truth (is_in ys x) (is_in (filter (is_in xs) (range_with_len 0 n)) x)
    (λ among. let here = sym (members x) ∙ among in to_filter (is_in xs) (range_with_len 0 n) x (let e : 0 + x ≡ x = omega arith in subst (λ y. is_in (range_with_len 0 n) y ≡ true) e (range_in n 0 x (below x here))) here)
    (λ among. members x ∙ (in_filter (is_in xs) (range_with_len 0 n) x among).1))

-- what a sort and a thinning leave has the members of the list, and rises
pub dedup_in : (k : ℕ) (xs : List ℕ) (x : ℕ) → is_in (dedup_from nat_eq k xs) x ≡ is_in (k ∷ xs) x
dedup_in k [] x = refl
dedup_in k (y ∷ xs) x = go (dedup_in k xs x) (dedup_in y xs x) (nat_eq y k) refl
  where
    twice : (b c : Bool) → (b || c) ≡ (b || (b || c))
    twice true c = refl
    twice false c = refl

    go : is_in (dedup_from nat_eq k xs) x ≡ is_in (k ∷ xs) x → is_in (dedup_from nat_eq y xs) x ≡ is_in (y ∷ xs) x → (b : Bool) → nat_eq y k ≡ b → is_in (cond b (dedup_from nat_eq k xs) (k ∷ dedup_from nat_eq y xs)) x ≡ is_in (k ∷ y ∷ xs) x
    go here there true is =
        here ∙ (twice (nat_eq x k) (is_in xs x) ∙ ap (λ z. nat_eq x k || (nat_eq x z || is_in xs x)) (sym (eqb-true y k is)))
    go here there false is = ap (λ b. nat_eq x k || b) there

pub thinned_in : (xs : List ℕ) (x : ℕ) → is_in (dedup nat_eq xs) x ≡ is_in xs x
thinned_in [] x = refl
thinned_in (k ∷ xs) x = dedup_in k xs x

rises_pairs : (a : ℕ) (xs : List ℕ) → ((i j : ℕ) → i < j → j < length xs → slice_index_or xs i 0 < slice_index_or xs j 0) → ((i : ℕ) → i < length xs → a ≤ slice_index_or xs i 0) → Rises a xs
rises_pairs a [] pairs low = tt
rises_pairs a (x ∷ xs) pairs low = (
  low 0 (omega arith),
  rises_pairs (suc x) xs (λ i j before within. pairs (suc i) (suc j) (omega arith) (omega arith)) (λ i within. let h = pairs 0 (suc i) (omega arith) (omega arith) in omega (arith, h)),
)

pub thinned_rises : (xs : List ℕ) → IsSorted nat_cmp xs → Rises 0 (dedup nat_eq xs)
thinned_rises xs sorted =
    let pairs = AllPairs-from_increasing (dedup nat_eq xs) (IsStrictlyIncreasing-dedup xs sorted) in
    rises_pairs 0 (dedup nat_eq xs) (λ i j before within. pairs i j 0 before within) (λ i within. omega arith)

-- what a sort and a thinning leave
pub rising_is : (numbers sorted thinned : List ℕ) (n : ℕ) → IsPermutation numbers sorted → IsSorted nat_cmp sorted → thinned ≡ dedup nat_eq sorted → ((x : ℕ) → is_in numbers x ≡ true → x < n)
    → thinned ≡ filter (is_in numbers) (range_with_len 0 n)
rising_is numbers sorted thinned n moved order is below =
    is ∙ rising_range numbers (dedup nat_eq sorted) n (thinned_rises sorted order) (λ x. thinned_in sorted x ∙ sym (list_any-IsPermutation (nat_eq x) numbers sorted moved)) below
