-- Lemmas on ranks: where one list of ranks fits the rule at every cell, it is the list of ranks.
use Rattle.std.proofs.Common.{[], ℕ, zero, suc, ◌+◌, ◌<◌, ◌≤◌, ◌≡◌, List, ◌∷◌, ◌++◌, Option, Some, None, map, max, refl, sym, ap}
use Rattle.std.proofs.Common.{◌∙◌, subst, arith}
use Rattle.std.specs.List.{AllByRecursion}
use Rattle.std.specs.Option.{option_map}
use Rattle.std.proofs.lemmas.Option.{same_Some}
use Rattle.cg_netlist.specs.Ranks.{next_rank, rank_within}

-- what holds of each element in two ways holds of it in a third that follows
pub both_ways : {X : Type 0} (P Q R : X → Type 0) → ((x : X) → P x → Q x → R x) → (xs : List X) → AllByRecursion P xs → AllByRecursion Q xs → AllByRecursion R xs
both_ways P Q R f [] p q = tt
both_ways P Q R f (x ∷ xs) p q = (f x p.0 q.0, both_ways P Q R f xs p.1 q.1)

max_swap : (a b : ℕ) (o : Option ℕ) → option_map (max a) (option_map (max b) o) ≡ option_map (max b) (option_map (max a) o)
max_swap a b None = refl
max_swap a b (Some x) = let e : max a (max b x) ≡ max b (max a x) = omega arith in ap Some e

pub next_rank-push : (ranks : List (Option ℕ)) (r : ℕ) → next_rank (ranks ++ Some r ∷ []) ≡ option_map (max (r + 1)) (next_rank ranks)
next_rank-push [] r = refl
next_rank-push (None ∷ ranks) r = refl
next_rank-push (Some q ∷ ranks) r = ap (option_map (max (q + 1))) (next_rank-push ranks r) ∙ max_swap (q + 1) (r + 1) (next_rank ranks)

-- the parts of a rank: those of the first cell above and of the others
pub record IsGreater (o : Option ℕ) (os : List (Option ℕ)) (r : ℕ) : Type 0 where
  pub first : ℕ
  pub others : ℕ
  pub first_is : o ≡ Some first
  pub others_is : next_rank os ≡ Some others
  pub rank_is : max (first + 1) others ≡ r

next_rank-parts : (o : Option ℕ) (os : List (Option ℕ)) (r : ℕ) → next_rank (o ∷ os) ≡ Some r → IsGreater o os r
next_rank-parts None os r is = absurd (cc)
next_rank-parts (Some q) os r is = at (next_rank os) refl is
  where
    at : (m : Option ℕ) → next_rank os ≡ m → option_map (max (q + 1)) m ≡ Some r → IsGreater (Some q) os r
    at None e is = absurd (cc)
    at (Some s) e is = record { first = q; others = s; first_is = refl; others_is = e; rank_is = same_Some _ _ is }

cons-agree : (o : Option ℕ) (os ps : List (Option ℕ)) → next_rank os ≡ next_rank ps → next_rank (o ∷ os) ≡ next_rank (o ∷ ps)
cons-agree None os ps same = refl
cons-agree (Some r) os ps same = ap (option_map (max (r + 1))) same

-- equal ranks above give equal ranks
pub next_rank-agree : (f g : ℕ → Option ℕ) (js : List ℕ) → AllByRecursion (λ j. f j ≡ g j) js → next_rank (map f js) ≡ next_rank (map g js)
next_rank-agree f g [] same = refl
next_rank-agree f g (j ∷ js) same = ap (λ o. next_rank (o ∷ map f js)) same.0 ∙ cons-agree (g j) (map f js) (map g js) (next_rank-agree f g js same.1)

abbrev IsBelow : (ℕ → Option ℕ) → ℕ → ℕ → Type 0
IsBelow f r j = (q : ℕ) × (f j ≡ Some q) × (q < r)

weaken : (f : ℕ → Option ℕ) (a b : ℕ) → a ≤ b → (js : List ℕ) → AllByRecursion (IsBelow f a) js → AllByRecursion (IsBelow f b) js
weaken f a b le [] below = tt
weaken f a b le (j ∷ js) below = ((below.0.0, below.0.1, omega (arith, below.0.2)), weaken f a b le js below.1)

-- the cells above a cell of rank r have ranks below r
pub next_rank-below : (f : ℕ → Option ℕ) (js : List ℕ) (r : ℕ) → next_rank (map f js) ≡ Some r → AllByRecursion (IsBelow f r) js
next_rank-below f [] r is = tt
next_rank-below f (j ∷ js) r is =
    let p = next_rank-parts (f j) (map f js) r is in
    ((p.first, p.first_is, omega (arith, p.rank_is)), weaken f p.others r (omega (arith, p.rank_is)) js (next_rank-below f js p.others p.others_is))

-- more ranks give the same rank where one was given
pub next_rank-more : (f g : ℕ → Option ℕ) (js : List ℕ) (r : ℕ) → ((j q : ℕ) → f j ≡ Some q → g j ≡ Some q) → next_rank (map f js) ≡ Some r → next_rank (map g js) ≡ Some r
next_rank-more f g [] r more is = is
next_rank-more f g (j ∷ js) r more is =
    let p = next_rank-parts (f j) (map f js) r is in
    ap (λ o. next_rank (o ∷ map g js)) (more j p.first p.first_is) ∙ (ap (option_map (max (p.first + 1))) (next_rank-more f g js p.others more p.others_is) ∙ ap Some p.rank_is)

-- a rank is at most what the ranks above stay under
pub next_rank-bound : (f : ℕ → Option ℕ) (js : List ℕ) (r b : ℕ) → ((j q : ℕ) → f j ≡ Some q → q < b) → next_rank (map f js) ≡ Some r → r ≤ b
next_rank-bound f [] r b small is = let e : 0 ≡ r = same_Some 0 r is in omega arith
next_rank-bound f (j ∷ js) r b small is =
    let p = next_rank-parts (f j) (map f js) r is in
    omega (arith, p.rank_is, small j p.first p.first_is, next_rank-bound f js p.others b small p.others_is)

-- a cell without a rank stands under one without a rank
pub record IsStuck (f : ℕ → Option ℕ) (above : List ℕ) : Type 0 where
  pub before : List ℕ
  pub at : ℕ
  pub after : List ℕ
  pub split : above ≡ before ++ at ∷ after
  pub unranked : f at ≡ None

pub next_rank-stuck : (f : ℕ → Option ℕ) (js : List ℕ) → next_rank (map f js) ≡ None → IsStuck f js
next_rank-stuck f [] is = absurd (cc)
next_rank-stuck f (j ∷ js) is = cases (f j) refl is (next_rank-stuck f js)
  where
    cases : (o : Option ℕ) → f j ≡ o → next_rank (o ∷ map f js) ≡ None → (next_rank (map f js) ≡ None → IsStuck f js) → IsStuck f (j ∷ js)
    cases None e is later = record { before = []; at = j; after = js; split = refl; unranked = e }
    cases (Some r) e is later = deeper (next_rank (map f js)) refl is
      where
        deeper : (m : Option ℕ) → next_rank (map f js) ≡ m → option_map (max (r + 1)) m ≡ None → IsStuck f (j ∷ js)
        deeper None d is = let s = later d in record { before = j ∷ s.before; at = s.at; after = s.after; split = ap (λ ks. j ∷ ks) s.split; unranked = s.unranked }
        deeper (Some m) d is = absurd (cc)

at_split : {X : Type 0} (P : X → Type 0) (before : List X) (x : X) (after : List X) → AllByRecursion P (before ++ x ∷ after) → P x
at_split P [] x after all = all.0
at_split P (y ∷ before) x after all = at_split P before x after all.1

pub under_none : (o : Option ℕ) (os : List (Option ℕ)) → next_rank os ≡ None → next_rank (o ∷ os) ≡ None
under_none None os none = refl
under_none (Some r) os none = ap (option_map (max (r + 1))) none

none_under : (f : ℕ → Option ℕ) (before : List ℕ) (j : ℕ) (after : List ℕ) → f j ≡ None → next_rank (map f (before ++ j ∷ after)) ≡ None
none_under f [] j after is = ap (λ o. next_rank (o ∷ map f after)) is
none_under f (i ∷ before) j after is = under_none (f i) (map f (before ++ j ∷ after)) (none_under f before j after is)

-- Where every cell has the rank that those above it give, and each rank is below n, these are the ranks.
module _ (above : ℕ → List ℕ) (ranks : ℕ → Option ℕ) (n : ℕ) (in_range : (k : ℕ) → k < n → AllByRecursion (λ j. j < n) (above k)) (fits : (k : ℕ) → k < n → next_rank (map ranks (above k)) ≡ ranks k) where
  pub ranked : (m k r : ℕ) → k < n → ranks k ≡ Some r → r < m → rank_within above m k ≡ Some r
  ranked zero k r lt is small = absurd (omega arith)
  ranked (suc m) k r lt is small =
      next_rank-agree (rank_within above m) ranks (above k) (both_ways (λ j. j < n) (IsBelow ranks r) (λ j. rank_within above m j ≡ ranks j) (λ j lt' q. ranked m j q.0 lt' q.1 (omega (arith, q.2)) ∙ sym q.1) (above k) (in_range k lt) (next_rank-below ranks (above k) r (fits k lt ∙ is))) ∙ (fits k lt ∙ is)

  pub unranked : (m k : ℕ) → k < n → ranks k ≡ None → rank_within above m k ≡ None
  unranked zero k lt is = refl
  unranked (suc m) k lt is =
      let s = next_rank-stuck ranks (above k) (fits k lt ∙ is) in
      let at_is = unranked m s.at (at_split (λ j. j < n) s.before s.at s.after (subst (AllByRecursion (λ j. j < n)) s.split (in_range k lt))) s.unranked in
      ap (λ js. next_rank (map (rank_within above m) js)) s.split ∙ none_under (rank_within above m) s.before s.at s.after at_is

  pub rank_is : ((k r : ℕ) → k < n → ranks k ≡ Some r → r < n) → (k : ℕ) → k < n → rank_within above n k ≡ ranks k
  rank_is small k lt = at (ranks k) refl
    where
      at : (o : Option ℕ) → ranks k ≡ o → rank_within above n k ≡ ranks k
      at None e = unranked n k lt e ∙ sym e
      at (Some r) e = ranked n k r lt e (small k r lt e) ∙ sym e
