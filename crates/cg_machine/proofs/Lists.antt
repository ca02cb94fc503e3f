-- Lists: one more element behind all others, and fronts of lists.
use Rattle.std.proofs.Common.{◌≡◌, ℕ, zero, suc, ◌+◌, ◌-◌, ◌<◌, ◌≤◌, ◌⊎◌, Bool, true, false, cond, List, [], ◌∷◌, ◌++◌, length}
use Rattle.std.proofs.Common.{slice_get, take, drop, None, Some, nat_eq, refl, sym, ◌∙◌, ap, subst, inl, inr, arith, get_or}
use Rattle.std.specs.List.{All, AllPairs, position_from, range_with_len}
use Rattle.std.proofs.lemmas.Bool.{both_ways, cases_lt, eqb-true, or_cases}
use Rattle.std.proofs.lemmas.List.{get_or_append_left, get_or-append_right, length-append}
use Rattle.std.proofs.lemmas.List.Elements.{All-get_or}
use Rattle.std.proofs.lemmas.Option.{get_or_from_slice_get, none-some, same_Some, slice_get_past, slice_get_within}
use Rattle.cg_net.specs.NetSets.{is_in}

pub get_front : {X : Type 0} (xs ys : List X) (k : ℕ) → k < length xs → slice_get (xs ++ ys) k ≡ slice_get xs k
get_front [] ys k below = absurd (omega arith)
get_front (x ∷ xs) ys zero below = refl
get_front (x ∷ xs) ys (suc k) below = get_front xs ys k (omega arith)

pub get_drop : {X : Type 0} (n : ℕ) (xs : List X) (k : ℕ) → slice_get (drop n xs) k ≡ slice_get xs (n + k)
get_drop zero xs k = let e : 0 + k ≡ k = omega arith in ap (slice_get xs) (sym e)
get_drop (suc n) [] k = sym (slice_get_past [] (suc n + k) (omega arith))
get_drop (suc n) (x ∷ xs) k = let e : suc n + k ≡ suc (n + k) = omega arith in get_drop n xs k ∙ ap (slice_get (x ∷ xs)) (sym e)

pub all_one : {X : Type 0} (P : X → Type 0) (x : X) → P x → All P (x ∷ [])
all_one P x is zero d below = is
all_one P x is (suc k) d below = absurd (omega arith)

pub in_one : (x y : ℕ) → is_in (y ∷ []) x ≡ true → x ≡ y
in_one x y among = elim (or_cases (nat_eq x y) false among) [ inl same ↦ eqb-true x y same | inr none ↦ absurd (both_ways false refl none) ]

pub take_get : {X : Type 0} (n : ℕ) (xs : List X) (k : ℕ) → k < n → slice_get (take n xs) k ≡ slice_get xs k
take_get zero xs k below = absurd (omega arith)
take_get (suc n) [] k below = refl
take_get (suc n) (x ∷ xs) zero below = refl
take_get (suc n) (x ∷ xs) (suc k) below = take_get n xs k (omega arith)

pub take_take : {X : Type 0} (a b : ℕ) (xs : List X) → a ≤ b → take a (take b xs) ≡ take a xs
take_take zero b xs below = refl
take_take (suc a) zero xs below = absurd (omega arith)
take_take (suc a) (suc b) [] below = refl
take_take (suc a) (suc b) (x ∷ xs) below = ap (λ l. x ∷ l) (take_take a b xs (omega arith))

-- numbers in pairs
pub pairs_append : {X : Type 0} (R : X → X → Type 0) (xs ys : List X) → AllPairs R xs → AllPairs R ys → ((x y : ℕ) (d : X) → x < length xs → y < length ys → R (get_or xs x d) (get_or ys y d)) → AllPairs R (xs ++ ys)
pairs_append R xs ys front back cross i j d before within = elim (cases_lt j (length xs)) [
  | inl j_in ↦ subst (λ a. R a (get_or (xs ++ ys) j d)) (sym (get_or_append_left xs ys d i (omega (arith, before, j_in)))) (subst (λ b. R (get_or xs i d) b) (sym (get_or_append_left xs ys d j j_in)) (front i j d before j_in))
  | inr j_past ↦ elim (cases_lt i (length xs)) [
    | inl i_in ↦ subst (λ a. R a (get_or (xs ++ ys) j d)) (sym (get_or_append_left xs ys d i i_in)) (subst (λ b. R (get_or xs i d) b) (sym (get_or-append_right xs ys (length xs) j d refl j_past)) (cross i (j - length xs) d i_in (omega (arith, within, length-append xs ys, j_past))))
    | inr i_past ↦ subst (λ a. R a (get_or (xs ++ ys) j d)) (sym (get_or-append_right xs ys (length xs) i d refl i_past)) (subst (λ b. R (get_or ys (i - length xs) d) b) (sym (get_or-append_right xs ys (length xs) j d refl j_past)) (back (i - length xs) (j - length xs) d (omega (arith, before, i_past)) (omega (arith, within, length-append xs ys, j_past))))
  ]
]

pub below_or : (n x : ℕ) → (x < n) ⊎ (n ≤ x)
below_or zero x = inr (omega arith)
below_or (suc n) zero = inl (omega arith)
below_or (suc n) (suc x) = elim (below_or n x) [ inl h ↦ inl (omega arith) | inr h ↦ inr (omega arith) ]

pub below_range : (n a x : ℕ) → is_in (range_with_len a n) x ≡ true → x < a + n
below_range zero a x among = absurd (both_ways false refl among)
below_range (suc n) a x among = elim (or_cases (nat_eq x a) (is_in (range_with_len (a + 1) n) x) among) [
  | inl same ↦ let e = eqb-true x a same in omega (arith, e)
  | inr later ↦ let b = below_range n (a + 1) x later in omega (arith, b)
]

-- what is true of all is true of the one at a place
pub all_at : {X : Type 0} (P : X → Type 0) (xs : List X) (k : ℕ) (x : X) → All P xs → slice_get xs k ≡ Some x → P x
all_at P xs k x all at = subst P (get_or_from_slice_get xs k x x at) (All-get_or P xs k x (slice_get_within xs k x at) all)

-- a search goes on from place to place
pub search_here : {X : Type 0} (p : X → Bool) (a : ℕ) (xs : List X) (n : ℕ) (x : X) → slice_get xs n ≡ Some x → p x ≡ true → position_from p a (drop n xs) ≡ Some a
search_here p a [] n x at is = absurd (none-some x at)
search_here p a (y ∷ xs) zero x at is = ap (λ b. cond b (Some a) (position_from p (a + 1) xs)) (ap p (same_Some y x at) ∙ is)
search_here p a (y ∷ xs) (suc n) x at is = search_here p a xs n x at is

pub search_on : {X : Type 0} (p : X → Bool) (a : ℕ) (xs : List X) (n : ℕ) (x : X) → slice_get xs n ≡ Some x → p x ≡ false → position_from p a (drop n xs) ≡ position_from p (a + 1) (drop (suc n) xs)
search_on p a [] n x at is = absurd (none-some x at)
search_on p a (y ∷ xs) zero x at is = ap (λ b. cond b (Some a) (position_from p (a + 1) xs)) (ap p (same_Some y x at) ∙ is)
search_on p a (y ∷ xs) (suc n) x at is = search_on p a xs n x at is

pub search_none : {X : Type 0} (p : X → Bool) (a : ℕ) (xs : List X) (n : ℕ) → length xs ≤ n → position_from p a (drop n xs) ≡ None
search_none p a [] zero past = refl
search_none p a [] (suc n) past = refl
search_none p a (x ∷ xs) zero past = absurd (omega (arith, past))
search_none p a (x ∷ xs) (suc n) past = search_none p a xs n (omega (arith, past))
