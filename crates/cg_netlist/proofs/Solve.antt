-- Bits by steps: the bits that stand beside nets, the place of a net, and a function of nets in which each net asks
-- only for nets of a lower rank.
use Rattle.std.proofs.Common.{◌≡◌, ℕ, zero, suc, ◌<◌, ◌≤◌, max, Bool, true, false, List, [], ◌∷◌, map, length, slice_get}
use Rattle.std.proofs.Common.{slice_index, Option, None, Some, nat_eq, ◌||◌, if◌then◌else◌, refl, ap, sym, ◌∙◌, subst, inl, inr}
use Rattle.std.proofs.Common.{arith}
use Rattle.std.specs.List.{IsDistinct}
use Rattle.std.specs.Option.{option_map}
use Rattle.std.proofs.lemmas.Bool.{eqb-true, eq-eqb, or_cases, or_parts, both_ways, cases_Bool}
use Rattle.cg_net.specs.NetSets.{is_in}
use Rattle.cg_net.proofs.Members.{distinct_head, distinct_tail, member_at, one_place}
use Rattle.cg_netlist.proofs.Values.{map_same}

-- the bit that stands beside a net, where one does
pub bit_beside : List ℕ → List Bool → ℕ → Bool
bit_beside [] bits x = false
bit_beside (n ∷ nets) [] x = false
bit_beside (n ∷ nets) (b ∷ bits) x = if nat_eq x n then b else bit_beside nets bits x

pub bits_beside : (nets : List ℕ) (bits : List Bool) → IsDistinct nat_eq nets → length bits ≡ length nets → map (bit_beside nets bits) nets ≡ bits
unfolding bit_beside
bits_beside [] [] distinct long = refl
bits_beside [] (b ∷ bits) distinct long = absurd (omega arith)
bits_beside (n ∷ nets) [] distinct long = absurd (omega arith)
bits_beside (n ∷ nets) (b ∷ bits) distinct long =
    let first : bit_beside (n ∷ nets) (b ∷ bits) n ≡ b = ap (λ t. if t then b else bit_beside nets bits n) (eq-eqb n n refl) in
    let others : map (bit_beside (n ∷ nets) (b ∷ bits)) nets ≡ map (bit_beside nets bits) nets = map_same (bit_beside (n ∷ nets) (b ∷ bits)) (bit_beside nets bits) nets (λ x among. elim (cases_Bool (nat_eq x n)) [
      | inl same ↦ absurd (both_ways (is_in nets n) (distinct_head n nets distinct) (subst (λ m. is_in nets m ≡ true) (eqb-true x n same) among))
      | inr other ↦ ap (λ t. if t then b else bit_beside nets bits x) other
    ]) in
    let rest : map (bit_beside nets bits) nets ≡ bits = bits_beside nets bits (distinct_tail n nets distinct) (omega arith) in
    ap (λ c. c ∷ map (bit_beside (n ∷ nets) (b ∷ bits)) nets) first ∙ ap (λ bs. b ∷ bs) (others ∙ rest)

-- the place of a net in a list, where it is in it
pub place_of : List ℕ → ℕ → Option ℕ
place_of [] x = None
place_of (n ∷ nets) x = if nat_eq x n then Some 0 else option_map suc (place_of nets x)

pub place_of-None : (nets : List ℕ) (x : ℕ) → is_in nets x ≡ false → place_of nets x ≡ None
unfolding place_of
place_of-None [] x none = refl
place_of-None (n ∷ nets) x none =
    let parts = or_parts (nat_eq x n) (is_in nets x) none in
    ap (λ t. if t then Some 0 else option_map suc (place_of nets x)) parts.0 ∙ ap (option_map suc) (place_of-None nets x parts.1)

pub place_of-Some : (nets : List ℕ) (k x : ℕ) → place_of nets x ≡ Some k → slice_get nets k ≡ Some x
unfolding place_of
place_of-Some [] k x place = absurd (cc)
place_of-Some (n ∷ nets) k x place = go (place_of-Some nets) (nat_eq x n) refl place
  where
    later : ((k : ℕ) (x : ℕ) → place_of nets x ≡ Some k → slice_get nets k ≡ Some x) → (o : Option ℕ) → place_of nets x ≡ o → option_map suc o ≡ Some k → slice_get (n ∷ nets) k ≡ Some x
    later known None is same = absurd (cc)
    later known (Some j) is same = let step : suc j ≡ k = cc in subst (λ m. slice_get (n ∷ nets) m ≡ Some x) step (known j x is)

    go : ((k : ℕ) (x : ℕ) → place_of nets x ≡ Some k → slice_get nets k ≡ Some x) → (t : Bool) → nat_eq x n ≡ t → (if t then Some 0 else option_map suc (place_of nets x)) ≡ Some k → slice_get (n ∷ nets) k ≡ Some x
    go known true here is = let at : 0 ≡ k = cc in subst (λ m. slice_get (n ∷ nets) m ≡ Some x) at (ap (λ m. Some m) (sym (eqb-true x n here)))
    go known false there is = later known (place_of nets x) refl is

-- a net that is in a list has a place
place_of-member : (nets : List ℕ) (x : ℕ) → is_in nets x ≡ true → place_of nets x ≡ None → ⊥
unfolding place_of
place_of-member [] x among none = both_ways false refl among
place_of-member (n ∷ nets) x among none = go (place_of-member nets x) (nat_eq x n) refl none among
  where
    later : (is_in nets x ≡ true → place_of nets x ≡ None → ⊥) → is_in nets x ≡ true → (o : Option ℕ) → place_of nets x ≡ o → option_map suc o ≡ None → ⊥
    later known inside None is same = known inside is
    later known inside (Some j) is same = cc

    go : (is_in nets x ≡ true → place_of nets x ≡ None → ⊥) → (t : Bool) → nat_eq x n ≡ t → (if t then Some 0 else option_map suc (place_of nets x)) ≡ None → (nat_eq x n || is_in nets x) ≡ true → ⊥
    go known true here is inside = cc
    go known false there is inside = later known (elim (or_cases (nat_eq x n) (is_in nets x) inside) [ inl same ↦ absurd (both_ways (nat_eq x n) there same) | inr rest ↦ rest ]) (place_of nets x) refl is

pub place_of-at : (nets : List ℕ) (k x : ℕ) → IsDistinct nat_eq nets → slice_get nets k ≡ Some x → place_of nets x ≡ Some k
place_of-at nets k x distinct at = go (place_of nets x) refl
  where
    go : (o : Option ℕ) → place_of nets x ≡ o → place_of nets x ≡ Some k
    go None none = absurd (place_of-member nets x (member_at nets k x at) none)
    go (Some j) is = is ∙ ap (λ m. Some m) (one_place nets j k x distinct (place_of-Some nets j x is) at)

-- a function of nets that steps give, where each step asks only for nets of a lower rank
pub solved : ((ℕ → Bool) → ℕ → Bool) → ℕ → ℕ → Bool
solved step zero x = false
solved step (suc n) x = step (solved step n) x

module _ (step : (ℕ → Bool) → ℕ → Bool) (rank : ℕ → ℕ) (asks : (f g : ℕ → Bool) (x : ℕ) → ((y : ℕ) → rank y < rank x → f y ≡ g y) → step f x ≡ step g x) where
  stable : (m n x : ℕ) → rank x < m → rank x < n → solved step m x ≡ solved step n x
  unfolding solved
  stable zero n x low high = absurd (omega arith)
  stable (suc m) zero x low high = absurd (omega arith)
  stable (suc m) (suc n) x low high = asks (solved step m) (solved step n) x (λ y below. stable m n y (omega arith) (omega arith))

  -- with steps enough for every rank, one more changes nothing
  pub fixed : (n x : ℕ) → rank x < n → solved step n x ≡ step (solved step n) x
  unfolding solved
  fixed n x below = stable n (suc n) x below (omega arith)

-- the greatest of some numbers
pub greatest : List ℕ → ℕ
greatest [] = 0
greatest (n ∷ ns) = max n (greatest ns)

pub greatest_bounds : (ns : List ℕ) (k : ℕ) → slice_index ns k ≤ greatest ns
unfolding greatest
greatest_bounds [] k = omega arith
greatest_bounds (n ∷ ns) zero = omega arith
greatest_bounds (n ∷ ns) (suc k) = omega (arith, greatest_bounds ns k)
