-- Names, and whether they are among a list.
use Rattle.std.specs.Prelude.{◌≡◌, ◌⊎◌, ℕ, zero, suc, ◌+◌, Bool, true, false, not, ◌||◌, if◌then◌else◌, List, [], ◌∷◌, ◌++◌}
use Rattle.std.specs.Prelude.{slice_get, Some}
use Rattle.std.proofs.Common.{refl, ap, ◌∙◌, sym, subst, inl, inr, arith, take, cond}
use Rattle.std.specs.List.{AllByRecursion, before_first, position_or_len}
use Rattle.std.specs.Str.{bytes_eq}
use Rattle.std.proofs.lemmas.Bool.{both_ways, or_cases, or_left, or_right}
use Rattle.std.proofs.lemmas.List.Folds.{list_any-append}
use Rattle.std.proofs.lemmas.Slice.Eq.{bytes_eq-Decides}
use Rattle.cg_net.specs.Names.{NetName, is_known}

pub itself : (a : NetName) → bytes_eq a a ≡ true
itself a = (bytes_eq-Decides a a).1 refl

pub same_word : (a b : NetName) → bytes_eq a b ≡ true → a ≡ b
same_word a b is = (bytes_eq-Decides a b).0 is

pub known-append : (xs ys : List NetName) (x : NetName) → is_known (xs ++ ys) x ≡ (is_known xs x || is_known ys x)
known-append xs ys x = list_any-append (bytes_eq x) xs ys

pub known_left : (xs ys : List NetName) (x : NetName) → is_known xs x ≡ true → is_known (xs ++ ys) x ≡ true
known_left xs ys x is = known-append xs ys x ∙ or_left (is_known xs x) (is_known ys x) is

pub known_right : (xs ys : List NetName) (x : NetName) → is_known ys x ≡ true → is_known (xs ++ ys) x ≡ true
known_right xs ys x is = known-append xs ys x ∙ or_right (is_known xs x) (is_known ys x) is

pub known_cases : (xs ys : List NetName) (x : NetName) → is_known (xs ++ ys) x ≡ true → (is_known xs x ≡ true) ⊎ (is_known ys x ≡ true)
known_cases xs ys x is = or_cases (is_known xs x) (is_known ys x) (sym (known-append xs ys x) ∙ is)

pub known_head : (x : NetName) (xs : List NetName) → is_known (x ∷ xs) x ≡ true
known_head x xs = or_left (bytes_eq x x) (is_known xs x) (itself x)

pub known_tail : (y x : NetName) (xs : List NetName) → is_known xs x ≡ true → is_known (y ∷ xs) x ≡ true
known_tail y x xs is = or_right (bytes_eq x y) (is_known xs x) is

pub each_known : (P : NetName → Type 0) (xs : List NetName) → ((x : NetName) → is_known xs x ≡ true → P x) → AllByRecursion P xs
each_known P [] holds = tt
each_known P (x ∷ xs) holds = (holds x (known_head x xs), each_known P xs (λ y is. holds y (known_tail x y xs is)))

pub known_each : (P : NetName → Type 0) (xs : List NetName) (x : NetName) → AllByRecursion P xs → is_known xs x ≡ true → P x
known_each P [] x all is = absurd (both_ways false refl is)
known_each P (y ∷ xs) x all is = elim (or_cases (bytes_eq x y) (is_known xs x) is) [
  | inl here ↦ subst P (sym (same_word x y here)) all.0
  | inr later ↦ known_each P xs x all.1 later
]

-- a name at a place is one of them
pub word_at : (xs : List NetName) (k : ℕ) (x : NetName) → slice_get xs k ≡ Some x → is_known xs x ≡ true
word_at [] k x at = absurd (cc)
word_at (y ∷ ys) zero x at = let same : y ≡ x = cc in ap (λ z. is_known (z ∷ ys) x) same ∙ known_head x ys
word_at (y ∷ ys) (suc k) x at = known_tail y x ys (word_at ys k x at)

-- what stands before the first, step by step
pub first_step : (p : NetName → Bool) (x : NetName) (xs : List NetName) → before_first p (x ∷ xs) ≡ (if p x then [] else x ∷ before_first p xs)
first_step p x xs = go (p x) (position_or_len p xs)
  where
    go : (b : Bool) (n : ℕ) → take (cond (not b) (1 + n) 0) (x ∷ xs) ≡ (if b then [] else x ∷ take n xs)
    go true n = refl
    go false n = let e : 1 + n ≡ suc n = omega arith in ap (λ m. take m (x ∷ xs)) e
