-- Items of lists, by their places.
use Rattle.std.proofs.Common.{◌≡◌, ℕ, zero, suc, Bool, true, false, cond, List, [], ◌∷◌, ◌++◌, map, slice_get, nat_eq, Some, refl}
use Rattle.std.proofs.Common.{sym, ◌∙◌, ap, ◌⊎◌, inl, inr}
use Rattle.std.specs.List.{filter}
use Rattle.std.proofs.lemmas.Bool.{both_ways, eqb-true, or_cases}
use Rattle.cg_net.specs.NetSets.{is_in}

-- an item stands in a list
pub record Among {T : Type 0} (x : T) (xs : List T) : Type 0 where
  pub place : ℕ
  pub at : slice_get xs place ≡ Some x

pub among_none : {T : Type 0} (x : T) → Among x [] → ⊥
among_none x a = absurd (let h = a.at in cc)

pub among_cons : {T : Type 0} (x y : T) (xs : List T) → Among x (y ∷ xs) → (y ≡ x) ⊎ Among x xs
among_cons x y xs a = go a.place a.at
  where
    go : (k : ℕ) → slice_get (y ∷ xs) k ≡ Some x → (y ≡ x) ⊎ Among x xs
    go zero is = inl (let e : y ≡ x = cc in e)
    go (suc k) is = inr (record { place = k; at = is })

pub later : {T : Type 0} (x y : T) (xs : List T) → Among x xs → Among x (y ∷ xs)
later x y xs a = record { place = suc a.place; at = a.at }

pub in_back : {T : Type 0} (x : T) (xs ys : List T) → Among x ys → Among x (xs ++ ys)
in_back x [] ys a = a
in_back x (y ∷ xs) ys a = later x y (xs ++ ys) (in_back x xs ys a)

pub in_front : {T : Type 0} (x : T) (xs ys : List T) → Among x xs → Among x (xs ++ ys)
in_front x [] ys a = absurd (among_none x a)
in_front x (y ∷ xs) ys a = elim (among_cons x y xs a) [
  | inl same ↦ record { place = 0; at = ap Some same }
  | inr more ↦ later x y (xs ++ ys) (in_front x xs ys more)
]

pub in_filter : {T : Type 0} (test : T → Bool) (x : T) (xs : List T) → Among x xs → test x ≡ true → Among x (filter test xs)
in_filter test x [] a passes = absurd (among_none x a)
in_filter test x (y ∷ xs) a passes = go (among_cons x y xs a) (λ more. in_filter test x xs more passes) (test y) refl
  where
    go : (y ≡ x) ⊎ Among x xs → (Among x xs → Among x (filter test xs)) → (b : Bool) → test y ≡ b → Among x (cond b (y ∷ filter test xs) (filter test xs))
    go (inl same) rest true is = record { place = 0; at = ap Some same }
    go (inl same) rest false is = absurd (both_ways (test y) is (ap test same ∙ passes))
    go (inr more) rest true is = later x y (filter test xs) (rest more)
    go (inr more) rest false is = rest more

pub in_map : {T : Type 0} (f : ℕ → T) (x : ℕ) (xs : List ℕ) → is_in xs x ≡ true → Among (f x) (map f xs)
in_map f x [] among = absurd (both_ways false refl among)
in_map f x (y ∷ xs) among = elim (or_cases (nat_eq x y) (is_in xs x) among) [
  | inl same ↦ record { place = 0; at = ap (λ z. Some (f z)) (sym (eqb-true x y same)) }
  | inr more ↦ later (f x) (f y) (map f xs) (in_map f x xs more)
]
