-- Lists of nets: which nets are in them, at which places, and lists in which no net stands twice.
use Rattle.std.proofs.Common.{◌≡◌, ℕ, zero, suc, true, false, ◌||◌, List, [], ◌∷◌, ◌++◌, slice_get, Some, nat_eq, refl, ap, sym}
use Rattle.std.proofs.Common.{◌∙◌, subst, inl, inr, ◌⊎◌}
use Rattle.std.specs.List.{All, IsDistinct, AllByRecursion}
use Rattle.std.proofs.lemmas.Bool.{eqb-true, eq-eqb, or_cases, or_left, or_right, or_parts, both_ways, false_from_ne_true}
use Rattle.std.proofs.lemmas.Bool.{cases_Bool}
use Rattle.std.proofs.lemmas.List.Folds.{list_any-append}
use Rattle.std.proofs.lemmas.List.Elements.{All-head, All-tail, All-nil, All-cons}
use Rattle.cg_net.specs.NetSets.{is_in}

-- a net is in two lists together where it is in one of them
pub is_in-append : (xs ys : List ℕ) (x : ℕ) → is_in (xs ++ ys) x ≡ (is_in xs x || is_in ys x)
is_in-append xs ys x = list_any-append (nat_eq x) xs ys

pub is_in_left : (xs ys : List ℕ) (x : ℕ) → is_in xs x ≡ true → is_in (xs ++ ys) x ≡ true
is_in_left xs ys x among = is_in-append xs ys x ∙ or_left (is_in xs x) (is_in ys x) among

pub is_in_right : (xs ys : List ℕ) (x : ℕ) → is_in ys x ≡ true → is_in (xs ++ ys) x ≡ true
is_in_right xs ys x among = is_in-append xs ys x ∙ or_right (is_in xs x) (is_in ys x) among

pub is_in_cases : (xs ys : List ℕ) (x : ℕ) → is_in (xs ++ ys) x ≡ true → (is_in xs x ≡ true) ⊎ (is_in ys x ≡ true)
is_in_cases xs ys x among = or_cases (is_in xs x) (is_in ys x) (sym (is_in-append xs ys x) ∙ among)

pub in_alone : (x : ℕ) → is_in (x ∷ []) x ≡ true
in_alone x = or_left (nat_eq x x) false (eq-eqb x x refl)

-- the place of a net that is in a list, and the net at a place
pub place_of_member : (xs : List ℕ) (x : ℕ) → is_in xs x ≡ true → (k : ℕ) × (slice_get xs k ≡ Some x)
place_of_member [] x among = absurd (both_ways false refl among)
place_of_member (y ∷ ys) x among =
    elim (or_cases (nat_eq x y) (is_in ys x) among) [
      | inl here ↦ (0, ap (λ n. Some n) (sym (eqb-true x y here)))
      | inr later ↦ let found : (k : ℕ) × (slice_get ys k ≡ Some x) = place_of_member ys x later in (suc found.0, found.1)
    ]

pub member_at : (xs : List ℕ) (k x : ℕ) → slice_get xs k ≡ Some x → is_in xs x ≡ true
member_at [] k x at = absurd (cc)
member_at (y ∷ ys) zero x at = let same : y ≡ x = cc in or_left (nat_eq x y) (is_in ys x) (eq-eqb x y (sym same))
member_at (y ∷ ys) (suc k) x at = or_right (nat_eq x y) (is_in ys x) (member_at ys k x at)

-- what holds of each net holds of one that is in the list
pub All-member : (P : ℕ → Type 0) (xs : List ℕ) (x : ℕ) → All P xs → is_in xs x ≡ true → P x
All-member P [] x all among = absurd (both_ways false refl among)
All-member P (y ∷ ys) x all among =
    elim (or_cases (nat_eq x y) (is_in ys x) among) [
      | inl here ↦ subst P (sym (eqb-true x y here)) (All-head P y ys all)
      | inr later ↦ All-member P ys x (All-tail P y ys all) later
    ]

-- what is true of each that is in a list is true of all
pub All-from_members : (P : ℕ → Type 0) (xs : List ℕ) → ((x : ℕ) → is_in xs x ≡ true → P x) → All P xs
All-from_members P [] each = All-nil P
All-from_members P (y ∷ ys) each = All-cons P y ys (each y (or_left (nat_eq y y) (is_in ys y) (eq-eqb y y refl))) (All-from_members P ys (λ x among. each x (or_right (nat_eq x y) (is_in ys x) among)))

-- a net that differs from each of a list is not in it
apart_from : (x y : ℕ) (ys : List ℕ) → AllByRecursion (λ z. nat_eq x z ≡ false) ys → is_in ys y ≡ true → x ≡ y → ⊥
apart_from x y [] apart among same = both_ways false refl among
apart_from x y (z ∷ zs) apart among same =
    elim (or_cases (nat_eq y z) (is_in zs y) among) [
      | inl here ↦ both_ways (nat_eq x z) apart.0 (eq-eqb x z (same ∙ eqb-true y z here))
      | inr later ↦ apart_from x y zs apart.1 later same
    ]

pub distinct_head : (x : ℕ) (xs : List ℕ) → IsDistinct nat_eq (x ∷ xs) → is_in xs x ≡ false
unfolding IsDistinct
distinct_head x xs distinct = false_from_ne_true (is_in xs x) (λ among. apart_from x x xs distinct.0 among refl)

pub distinct_tail : (x : ℕ) (xs : List ℕ) → IsDistinct nat_eq (x ∷ xs) → IsDistinct nat_eq xs
unfolding IsDistinct
distinct_tail x xs distinct = distinct.1

differ_each : (x : ℕ) (xs : List ℕ) → is_in xs x ≡ false → AllByRecursion (λ y. nat_eq x y ≡ false) xs
differ_each x [] none = tt
differ_each x (y ∷ ys) none = let parts = or_parts (nat_eq x y) (is_in ys x) none in (parts.0, differ_each x ys parts.1)

pub distinct_cons : (x : ℕ) (xs : List ℕ) → is_in xs x ≡ false → IsDistinct nat_eq xs → IsDistinct nat_eq (x ∷ xs)
unfolding IsDistinct
distinct_cons x xs none distinct = (differ_each x xs none, distinct)

-- two lists together have no net twice where neither has, and they share none
pub distinct_left : (xs ys : List ℕ) → IsDistinct nat_eq (xs ++ ys) → IsDistinct nat_eq xs
unfolding IsDistinct
distinct_left [] ys distinct = tt
distinct_left (x ∷ xs) ys distinct =
    distinct_cons x xs (elim (cases_Bool (is_in xs x)) [
      | inl among ↦ absurd (both_ways (is_in (xs ++ ys) x) (distinct_head x (xs ++ ys) distinct) (is_in_left xs ys x among))
      | inr none ↦ none
    ]) (distinct_left xs ys (distinct_tail x (xs ++ ys) distinct))

pub distinct_right : (xs ys : List ℕ) → IsDistinct nat_eq (xs ++ ys) → IsDistinct nat_eq ys
distinct_right [] ys distinct = distinct
distinct_right (x ∷ xs) ys distinct = distinct_right xs ys (distinct_tail x (xs ++ ys) distinct)

pub distinct_apart : (xs ys : List ℕ) → IsDistinct nat_eq (xs ++ ys) → (x : ℕ) → is_in xs x ≡ true → is_in ys x ≡ false
distinct_apart [] ys distinct x among = absurd (both_ways false refl among)
distinct_apart (y ∷ xs) ys distinct x among =
    elim (or_cases (nat_eq x y) (is_in xs x) among) [
      | inl here ↦ (or_parts (is_in xs x) (is_in ys x) (sym (is_in-append xs ys x) ∙ (ap (is_in (xs ++ ys)) (eqb-true x y here) ∙ distinct_head y (xs ++ ys) distinct))).1
      | inr later ↦ distinct_apart xs ys (distinct_tail y (xs ++ ys) distinct) x later
    ]

pub distinct_append : (xs ys : List ℕ) → IsDistinct nat_eq xs → IsDistinct nat_eq ys → ((x : ℕ) → is_in xs x ≡ true → is_in ys x ≡ false) → IsDistinct nat_eq (xs ++ ys)
distinct_append [] ys front back apart = back
distinct_append (x ∷ xs) ys front back apart =
    distinct_cons x (xs ++ ys)
    (is_in-append xs ys x ∙ (ap (λ b. b || is_in ys x) (distinct_head x xs front) ∙ apart x (or_left (nat_eq x x) (is_in xs x) (eq-eqb x x refl))))
    (distinct_append xs ys (distinct_tail x xs front) back (λ y among. apart y (or_right (nat_eq y x) (is_in xs y) among)))

-- in a list without a net twice a net has one place
pub one_place : (xs : List ℕ) (j k x : ℕ) → IsDistinct nat_eq xs → slice_get xs j ≡ Some x → slice_get xs k ≡ Some x → j ≡ k
one_place [] j k x distinct a b = absurd (cc)
one_place (y ∷ ys) zero zero x distinct a b = refl
one_place (y ∷ ys) (suc j) (suc k) x distinct a b = ap suc (one_place ys j k x (distinct_tail y ys distinct) a b)
one_place (y ∷ ys) zero (suc k) x distinct a b = absurd (both_ways (is_in ys x) (ap (is_in ys) (let same : x ≡ y = cc in same) ∙ distinct_head y ys distinct) (member_at ys k x b))
one_place (y ∷ ys) (suc j) zero x distinct a b = absurd (both_ways (is_in ys x) (ap (is_in ys) (let same : x ≡ y = cc in same) ∙ distinct_head y ys distinct) (member_at ys j x a))
