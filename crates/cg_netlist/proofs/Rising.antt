-- Where ranks rise from each driving cell to the driven one, every cell has a rank.
use Rattle.std.proofs.Common.{[], ℕ, zero, suc, ◌+◌, ◌<◌, ◌≤◌, ◌≡◌, inl, inr, Bool, true, false, cond, List, ◌∷◌, Option, Some}
use Rattle.std.proofs.Common.{None, map, max, length, is_none, refl, sym, ap, ◌∙◌, arith, nat_eq, nat_lt}
use Rattle.std.specs.List.{slice_get, slice_index, count_by, filter_map, cons_option, position_from}
use Rattle.std.specs.Option.{option_map, option_map_or}
use Rattle.std.proofs.lemmas.Bool.{both_ways, or_cases, or_right, eqb-true, ltb-true, lt-ltb, le-ltb}
use Rattle.std.proofs.lemmas.List.Sums.{sum_by-cons, count_by-le-length}
use Rattle.std.proofs.lemmas.Option.{same_Some, slice_get_within, slice_get-get_or}
use Rattle.cg_netlist.specs.Circuit.{LogicCell}
use Rattle.cg_net.specs.NetSets.{is_in}
use Rattle.cg_netlist.specs.Ranks.{driving_cell, driving_cells, next_rank, rank_of, rank_within}
use Rattle.cg_netlist.specs.WellFormed.{AreRanks}
use Rattle.cg_net.proofs.Members.{member_at}

count_cons : (p : ℕ → Bool) (x : ℕ) (xs : List ℕ) → count_by p (x ∷ xs) ≡ cond (p x) 1 0 + count_by p xs
count_cons p x xs = sum_by-cons (λ y. cond (p y) 1 0) x xs

one_at_most : (p q : Bool) → (p ≡ true → q ≡ true) → cond p 1 0 ≤ cond q 1 0
one_at_most true q more = rw (more refl) omega arith
one_at_most false q more = omega arith

-- a test that passes more counts as much, and one more where it passes one that the other does not
count_more : (p q : ℕ → Bool) (xs : List ℕ) → ((x : ℕ) → p x ≡ true → q x ≡ true) → count_by p xs ≤ count_by q xs
count_more p q [] more = omega arith
count_more p q (x ∷ xs) more = omega (arith, count_cons p x xs, count_cons q x xs, one_at_most (p x) (q x) (more x), count_more p q xs more)

count_rises : (p q : ℕ → Bool) (xs : List ℕ) (x : ℕ) → ((y : ℕ) → p y ≡ true → q y ≡ true) → is_in xs x ≡ true → p x ≡ false → q x ≡ true → count_by p xs < count_by q xs
count_rises p q [] x more among fails passes = absurd (both_ways false refl among)
count_rises p q (y ∷ xs) x more among fails passes = elim (or_cases (nat_eq x y) (is_in xs x) among) [
  | inl here ↦
      let same : x ≡ y = eqb-true x y here in
      let none : ◌≡◌ {A = ℕ} (cond (p y) 1 0) 0 = ap {B = ℕ} (λ b. cond b 1 0) (ap p (sym same) ∙ fails) in
      let one : ◌≡◌ {A = ℕ} (cond (q y) 1 0) 1 = ap {B = ℕ} (λ b. cond b 1 0) (ap q (sym same) ∙ passes) in
      omega (arith, count_cons p y xs, count_cons q y xs, none, one, count_more p q xs more)
  | inr later ↦ omega (arith, count_cons p y xs, count_cons q y xs, one_at_most (p y) (q y) (more y), count_rises p q xs x more later fails passes)
]

-- a rank under cells that all have ranks
next_rank-found : (f : ℕ → Option ℕ) (js : List ℕ) → ((j : ℕ) → is_in js j ≡ true → is_none (f j) ≡ false) → is_none (next_rank (map f js)) ≡ false
next_rank-found f [] found = refl
next_rank-found f (j ∷ js) found = go (f j) (found j (member_at (j ∷ js) 0 j refl)) (next_rank-found f js (λ i among. found i (or_right (nat_eq i j) (is_in js i) among)))
  where
    deeper : (r : ℕ) (m : Option ℕ) → is_none m ≡ false → is_none (option_map (max (r + 1)) m) ≡ false
    deeper r None none = absurd (both_ways true none refl)
    deeper r (Some q) some = refl

    go : (o : Option ℕ) → is_none o ≡ false → is_none (next_rank (map f js)) ≡ false → is_none (next_rank (o ∷ map f js)) ≡ false
    go None none rest = absurd (both_ways true none refl)
    go (Some r) some rest = deeper r (next_rank (map f js)) rest

-- where a number falls on each way up, the rank is found after as many cells as the number is
found_within : (above : ℕ → List ℕ) (height : ℕ → ℕ) → ((j k : ℕ) → is_in (above k) j ≡ true → height j < height k) → (m k : ℕ) → height k < m → is_none (rank_within above m k) ≡ false
found_within above height falls zero k small = absurd (omega arith)
found_within above height falls (suc m) k small = next_rank-found (rank_within above m) (above k) (λ j among. found_within above height falls m j (omega (arith, small, falls j k among)))

-- a cell among those that drive a cell drives one of its inputs
pub in_made : (f : ℕ → Option ℕ) (nets : List ℕ) (k : ℕ) → is_in (filter_map f nets) k ≡ true → (net : ℕ) × (is_in nets net ≡ true) × (f net ≡ Some k)
in_made f [] k among = absurd (both_ways false refl among)
in_made f (x ∷ nets) k among = go (f x) refl among (in_made f nets k)
  where
    go : (o : Option ℕ) → f x ≡ o → is_in (cons_option o (filter_map f nets)) k ≡ true → (is_in (filter_map f nets) k ≡ true → (net : ℕ) × (is_in nets net ≡ true) × (f net ≡ Some k)) → (net : ℕ) × (is_in (x ∷ nets) net ≡ true) × (f net ≡ Some k)
    go None is here later = let more = later here in (more.0, or_right (nat_eq more.0 x) (is_in nets more.0) more.1, more.2)
    go (Some j) is here later = elim (or_cases (nat_eq k j) (is_in (filter_map f nets) k) here) [
      | inl same ↦ (x, member_at (x ∷ nets) 0 x refl, is ∙ ap (λ i. Some i) (sym (eqb-true k j same)))
      | inr among' ↦ let more = later among' in (more.0, or_right (nat_eq more.0 x) (is_in nets more.0) more.1, more.2)
    ]

-- the first cell that passes a test
first_passes : (test : LogicCell ℕ → Bool) (a : ℕ) (cells : List (LogicCell ℕ)) (k : ℕ) → position_from test a cells ≡ Some k → (i : ℕ) × (cell : LogicCell ℕ) × (k ≡ a + i) × (slice_get cells i ≡ Some cell) × (test cell ≡ true)
first_passes test a [] k is = absurd (cc)
first_passes test a (cell ∷ cells) k is = go (test cell) refl is (first_passes test (a + 1) cells k)
  where
    go : (b : Bool) → test cell ≡ b → cond b (Some a) (position_from test (a + 1) cells) ≡ Some k
        → (position_from test (a + 1) cells ≡ Some k → (i : ℕ) × (c : LogicCell ℕ) × (k ≡ a + 1 + i) × (slice_get cells i ≡ Some c) × (test c ≡ true))
        → (i : ℕ) × (c : LogicCell ℕ) × (k ≡ a + i) × (slice_get (cell ∷ cells) i ≡ Some c) × (test c ≡ true)
    go true passes here later = let same : a ≡ k = same_Some a k here in (0, cell, omega (arith, same), refl, passes)
    go false fails rest later = let more = later rest in (suc more.0, more.1, omega (arith, more.2), more.3, more.4)

module _ (cells : List (LogicCell ℕ)) (ranks : List ℕ) (ranked : AreRanks cells ranks) where
  -- how many ranks are below that of a cell
  abbrev height : ℕ → ℕ
  height k = count_by (λ r. nat_lt r (slice_index ranks k)) ranks

  has_rank : (k : ℕ) → k < length cells → is_in ranks (slice_index ranks k) ≡ true
  has_rank k lt = member_at ranks k (slice_index ranks k) (slice_get-get_or ranks k 0 (omega (arith, ranked.count)))

  itself : (r : ℕ) → nat_lt r r ≡ false
  itself r = le-ltb r r (omega arith)

  lower : (a b : ℕ) → a < b → (r : ℕ) → nat_lt r a ≡ true → nat_lt r b ≡ true
  lower a b lt r below = lt-ltb r b (omega (arith, lt, ltb-true r a below))

  height_within : (k : ℕ) → k < length cells → height k < length cells
  height_within k lt =
      let some = count_rises (λ r. nat_lt r (slice_index ranks k)) (λ r. true) ranks (slice_index ranks k) (λ r below. refl) (has_rank k lt) (itself (slice_index ranks k)) refl in
      omega (arith, some, count_by-le-length (λ (r : ℕ). true) ranks, ranked.count)

  height_rises : (j k : ℕ) → j < length cells → slice_index ranks j < slice_index ranks k → height j < height k
  height_rises j k within lt = count_rises (λ r. nat_lt r (slice_index ranks j)) (λ r. nat_lt r (slice_index ranks k)) ranks (slice_index ranks j)
      (lower (slice_index ranks j) (slice_index ranks k) lt) (has_rank j within) (itself (slice_index ranks j)) (lt-ltb (slice_index ranks j) (slice_index ranks k) lt)

  falls : (j k : ℕ) → is_in (driving_cells cells k) j ≡ true → height j < height k
  falls j k = go (slice_get cells k) refl
    where
      go : (o : Option (LogicCell ℕ)) → slice_get cells k ≡ o → is_in (option_map_or (λ cell. filter_map (driving_cell cells) cell.inputs) o []) j ≡ true → height j < height k
      go None is among = absurd (both_ways false refl among)
      go (Some cell) is among =
          let net = in_made (driving_cell cells) cell.inputs j among in
          let driver = first_passes (λ c. nat_eq c.output net.0) 0 cells j net.2 in
          let at : slice_get cells j ≡ Some driver.1 = let e : j ≡ driver.0 = omega (arith, driver.2) in ap (slice_get cells) e ∙ driver.3 in
          let used : is_in cell.inputs driver.1.output ≡ true = ap (is_in cell.inputs) (eqb-true driver.1.output net.0 driver.4) ∙ net.1 in
          height_rises j k (slice_get_within cells j driver.1 at) (ranked.rising j k driver.1 cell at is used)

  pub every_rank_found : (k : ℕ) → k < length cells → is_none (rank_of cells k) ≡ false
  every_rank_found k lt = found_within (driving_cells cells) height falls (length cells) k (height_within k lt)
