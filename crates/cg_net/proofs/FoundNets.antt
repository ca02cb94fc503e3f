-- Nets that are found one after another, each once.
use Rattle.std.proofs.Common.{◌≡◌, ℕ, zero, suc, ◌≤◌, Bool, true, false, if◌then◌else◌, List, [], ◌∷◌, ◌++◌, length, take}
use Rattle.std.proofs.Common.{nat_eq, slice_get, Some, refl, sym, ◌∙◌, ap, subst, arith, ◌⊎◌, inl, inr, append_assoc}
use Rattle.std.proofs.lemmas.Bool.{both_ways, eqb-true, eq-eqb, or_cases, or_left, or_right}
use Rattle.std.proofs.lemmas.Option.{none-some}
use Rattle.cg_net.specs.NetSets.{is_in, with_net, with_nets}
use Rattle.cg_net.proofs.Members.{in_alone, is_in_cases, is_in_left, is_in_right}

-- one more net
pub one_more : (found : List ℕ) (x y : ℕ) → is_in (with_net found x) y ≡ true → (is_in found y ≡ true) ⊎ (y ≡ x)
one_more found x y among = go (is_in found x) among
  where
    last : is_in (x ∷ []) y ≡ true → y ≡ x
    last h = elim (or_cases (nat_eq y x) false h) [ inl same ↦ eqb-true y x same | inr none ↦ absurd (both_ways false refl none) ]

    go : (b : Bool) → is_in (if b then found else found ++ x ∷ []) y ≡ true → (is_in found y ≡ true) ⊎ (y ≡ x)
    go true h = inl h
    go false h = elim (is_in_cases found (x ∷ []) y h) [ inl before ↦ inl before | inr new ↦ inr (last new) ]

pub kept_one : (found : List ℕ) (x y : ℕ) → is_in found y ≡ true → is_in (with_net found x) y ≡ true
kept_one found x y among = go (is_in found x)
  where
    go : (b : Bool) → is_in (if b then found else found ++ x ∷ []) y ≡ true
    go true = among
    go false = is_in_left found (x ∷ []) y among

pub put_one : (found : List ℕ) (x : ℕ) → is_in (with_net found x) x ≡ true
put_one found x = go (is_in found x) refl
  where
    go : (b : Bool) → is_in found x ≡ b → is_in (if b then found else found ++ x ∷ []) x ≡ true
    go true is = is
    go false is = is_in_right found (x ∷ []) x (in_alone x)

-- more nets
pub kept_all : (found xs : List ℕ) (y : ℕ) → is_in found y ≡ true → is_in (with_nets found xs) y ≡ true
kept_all found [] y among = among
kept_all found (x ∷ xs) y among = kept_all (with_net found x) xs y (kept_one found x y among)

pub put_all : (found xs : List ℕ) (y : ℕ) → is_in xs y ≡ true → is_in (with_nets found xs) y ≡ true
put_all found [] y among = absurd (both_ways false refl among)
put_all found (x ∷ xs) y among = elim (or_cases (nat_eq y x) (is_in xs y) among) [
  | inl same ↦ kept_all (with_net found x) xs y (subst (λ z. is_in (with_net found x) z ≡ true) (sym (eqb-true y x same)) (put_one found x))
  | inr later ↦ put_all (with_net found x) xs y later
]

pub only_these : (found xs : List ℕ) (y : ℕ) → is_in (with_nets found xs) y ≡ true → (is_in found y ≡ true) ⊎ (is_in xs y ≡ true)
only_these found [] y among = inl among
only_these found (x ∷ xs) y among = elim (only_these (with_net found x) xs y among) [
  | inl before ↦ elim (one_more found x y before) [
    | inl old ↦ inl old
    | inr same ↦ inr (or_left (nat_eq y x) (is_in xs y) (eq-eqb y x same))
  ]
  | inr later ↦ inr (or_right (nat_eq y x) (is_in xs y) later)
]

-- what was found before stays in front
pub front : (found xs : List ℕ) → (more : List ℕ) × (with_nets found xs ≡ found ++ more)
front found [] = ([], sym (append-none found))
  where
    append-none : (l : List ℕ) → l ++ [] ≡ l
    append-none [] = refl
    append-none (y ∷ l) = ap (λ k. y ∷ k) (append-none l)
front found (x ∷ xs) = go (is_in found x) (front found xs) (front (found ++ x ∷ []) xs)
  where
    go : (b : Bool) → ((more : List ℕ) × (with_nets found xs ≡ found ++ more)) → ((more : List ℕ) × (with_nets (found ++ x ∷ []) xs ≡ found ++ x ∷ [] ++ more)) → (more : List ℕ) × (with_nets (if b then found else found ++ x ∷ []) xs ≡ found ++ more)
    go true a b = a
    go false a b = (x ∷ b.0, b.1 ∙ append_assoc found (x ∷ []) b.0)

pub take_front : {X : Type 0} (n : ℕ) (xs ys : List X) → n ≤ length xs → take n (xs ++ ys) ≡ take n xs
take_front zero xs ys within = refl
take_front (suc n) [] ys within = absurd (omega arith)
take_front (suc n) (x ∷ xs) ys within = ap (λ l. x ∷ l) (take_front n xs ys (omega arith))

-- what stands in the front of a list stands in the list
pub take_some : {X : Type 0} (n : ℕ) (xs : List X) (k : ℕ) (x : X) → slice_get (take n xs) k ≡ Some x → slice_get xs k ≡ Some x
take_some zero xs k x at = absurd (none-some x at)
take_some (suc n) [] k x at = absurd (none-some x at)
take_some (suc n) (y ∷ xs) zero x at = at
take_some (suc n) (y ∷ xs) (suc k) x at = take_some n xs k x at
