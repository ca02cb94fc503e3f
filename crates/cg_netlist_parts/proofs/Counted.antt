-- How often a name stands in a list.
use Rattle.std.specs.Prelude.{[], ◌≡◌, ℕ, zero, suc, ◌+◌, ◌≤◌, true, false, ◌||◌, List, ◌∷◌, slice_get, Some}
use Rattle.std.proofs.Common.{refl, ap, ◌∙◌, sym, inl, inr, arith, cond}
use Rattle.std.specs.List.{count_by}
use Rattle.std.specs.Str.{bytes_eq}
use Rattle.std.proofs.lemmas.Bool.{both_ways, cases_Bool, or_parts}
use Rattle.std.proofs.lemmas.List.Sums.{sum_by-cons}
use Rattle.cg_netlist_parts.proofs.Different.{Apart}
use Rattle.cg_netlist_parts.proofs.KnownNames.{itself, same_word, word_at}
use Rattle.cg_net.specs.Names.{NetName, is_known}

count-cons : (x y : NetName) (ys : List NetName) → count_by (bytes_eq x) (y ∷ ys) ≡ cond (bytes_eq x y) 1 0 + count_by (bytes_eq x) ys
count-cons x y ys = sum_by-cons (λ z. cond (bytes_eq x z) 1 0) y ys

-- once more where it stands first, and as often as behind where another does
pub count_here : (x y : NetName) (ys : List NetName) → bytes_eq x y ≡ true → count_by (bytes_eq x) (y ∷ ys) ≡ suc (count_by (bytes_eq x) ys)
count_here x y ys same = let e : 1 + count_by (bytes_eq x) ys ≡ suc (count_by (bytes_eq x) ys) = omega arith in count-cons x y ys ∙ (ap (λ b. cond b 1 0 + count_by (bytes_eq x) ys) same ∙ e)

pub count_other : (x y : NetName) (ys : List NetName) → bytes_eq x y ≡ false → count_by (bytes_eq x) (y ∷ ys) ≡ count_by (bytes_eq x) ys
count_other x y ys other = let e : 0 + count_by (bytes_eq x) ys ≡ count_by (bytes_eq x) ys = omega arith in count-cons x y ys ∙ (ap (λ b. cond b 1 0 + count_by (bytes_eq x) ys) other ∙ e)

pub unknown_none : (xs : List NetName) (x : NetName) → is_known xs x ≡ false → count_by (bytes_eq x) xs ≡ 0
unknown_none [] x none = refl
unknown_none (y ∷ ys) x none = let parts = or_parts (bytes_eq x y) (is_known ys x) none in count_other x y ys parts.0 ∙ unknown_none ys x parts.1

pub known_some : (xs : List NetName) (x : NetName) → is_known xs x ≡ true → 1 ≤ count_by (bytes_eq x) xs
known_some [] x is = absurd (both_ways false refl is)
known_some (y ∷ ys) x is = elim (cases_Bool (bytes_eq x y)) [
  | inl here ↦ let e : count_by (bytes_eq x) (y ∷ ys) ≡ suc (count_by (bytes_eq x) ys) = count_here x y ys here in omega (arith, e)
  | inr other ↦
      let e : count_by (bytes_eq x) (y ∷ ys) ≡ count_by (bytes_eq x) ys = count_other x y ys other in
      let later : 1 ≤ count_by (bytes_eq x) ys = known_some ys x (ap (λ b. b || is_known ys x) (sym other) ∙ is) in
      omega (arith, e, later)
]

-- where no name stands twice, each stands once at most
pub apart_counts : (xs : List NetName) (x : NetName) → Apart xs → count_by (bytes_eq x) xs ≤ 1
apart_counts [] x apart = omega arith
apart_counts (y ∷ ys) x apart = elim (cases_Bool (bytes_eq x y)) [
  | inl here ↦
      let e : count_by (bytes_eq x) (y ∷ ys) ≡ suc (count_by (bytes_eq x) ys) = count_here x y ys here in
      let none : count_by (bytes_eq x) ys ≡ 0 = unknown_none ys x (ap (is_known ys) (same_word x y here) ∙ apart.0) in
      omega (arith, e, none)
  | inr other ↦
      let e : count_by (bytes_eq x) (y ∷ ys) ≡ count_by (bytes_eq x) ys = count_other x y ys other in
      let rest : count_by (bytes_eq x) ys ≤ 1 = apart_counts ys x apart.1 in
      omega (arith, e, rest)
]

-- a name that stands once at most has one place at most
pub one_place : (xs : List NetName) (x : NetName) → count_by (bytes_eq x) xs ≤ 1 → (i j : ℕ) → slice_get xs i ≡ Some x → slice_get xs j ≡ Some x → i ≡ j
one_place [] x once i j i_at j_at = absurd (cc)
one_place (y ∷ ys) x once zero zero i_at j_at = refl
one_place (y ∷ ys) x once zero (suc j) i_at j_at =
    let same : y ≡ x = cc in
    let e : count_by (bytes_eq x) (y ∷ ys) ≡ suc (count_by (bytes_eq x) ys) = count_here x y ys (ap (bytes_eq x) same ∙ itself x) in
    let later : 1 ≤ count_by (bytes_eq x) ys = known_some ys x (word_at ys j x j_at) in
    absurd (omega (arith, e, later, once))
one_place (y ∷ ys) x once (suc i) zero i_at j_at =
    let same : y ≡ x = cc in
    let e : count_by (bytes_eq x) (y ∷ ys) ≡ suc (count_by (bytes_eq x) ys) = count_here x y ys (ap (bytes_eq x) same ∙ itself x) in
    let later : 1 ≤ count_by (bytes_eq x) ys = known_some ys x (word_at ys i x i_at) in
    absurd (omega (arith, e, later, once))
one_place (y ∷ ys) x once (suc i) (suc j) i_at j_at =
    let fewer : count_by (bytes_eq x) ys ≤ 1 = elim (cases_Bool (bytes_eq x y)) [
      | inl here ↦ let e : count_by (bytes_eq x) (y ∷ ys) ≡ suc (count_by (bytes_eq x) ys) = count_here x y ys here in omega (arith, e, once)
      | inr other ↦ let e : count_by (bytes_eq x) (y ∷ ys) ≡ count_by (bytes_eq x) ys = count_other x y ys other in omega (arith, e, once)
    ] in
    ap suc (one_place ys x fewer i j i_at j_at)
