-- Elements of a list, each once, by a test that decides whether two are the same.
use Rattle.std.proofs.Common.{[], ◌≡◌, Bool, true, false, not, List, ◌∷◌, refl, ap, sym, subst, cond, inl, inr}
use Rattle.std.specs.Bool.{Decides}
use Rattle.std.specs.Cmp.{IsEquivalence}
use Rattle.std.specs.List.{AllByRecursion, IsDistinct, filter, list_all, list_any}
use Rattle.std.proofs.lemmas.Bool.{and_parts, both_ways, cases_Bool, not-true, or_cases, or_left, or_right}
use Rattle.std.proofs.lemmas.Map.Keys.{IsDistinct-cons}
use Rattle.cg_verilog_text.specs.Meaning.{once}

-- all of a list, kept
pub all_filter : {X : Type 0} (P : X → Type 0) (p : X → Bool) (xs : List X) → AllByRecursion P xs → AllByRecursion P (filter p xs)
all_filter P p [] all = tt
all_filter {X} P p (x ∷ xs) all = step (p x) (all_filter P p xs all.1)
  where
    step : (b : Bool) → AllByRecursion P (filter p xs) → AllByRecursion P (cond b (x ∷ filter p xs) (filter p xs))
    step true rest = (all.0, rest)
    step false rest = rest

pub all_passed : {X : Type 0} (P : X → Type 0) (Q : X → Type 0) (p : X → Bool) → ((x : X) → P x → p x ≡ true → Q x) → (xs : List X) → AllByRecursion P xs → AllByRecursion Q (filter p xs)
all_passed P Q p both [] all = tt
all_passed {X} P Q p both (x ∷ xs) all = step (p x) refl (all_passed P Q p both xs all.1)
  where
    step : (b : Bool) → p x ≡ b → AllByRecursion Q (filter p xs) → AllByRecursion Q (cond b (x ∷ filter p xs) (filter p xs))
    step true e rest = (both x all.0 e, rest)
    step false e rest = rest

pub all_listed : {X : Type 0} (p : X → Bool) (xs : List X) → list_all p xs ≡ true → AllByRecursion (λ x. p x ≡ true) xs
all_listed p [] all = tt
all_listed p (x ∷ xs) all = let parts = and_parts (p x) (list_all p xs) all in (parts.0, all_listed p xs parts.1)

-- both or neither
pub same_bool : (a b : Bool) → (a ≡ true → b ≡ true) → (b ≡ true → a ≡ true) → a ≡ b
same_bool true b there back = sym (there refl)
same_bool false true there back = back refl
same_bool false false there back = refl

module _ {N : Type 0} (same : N → N → Bool) (decides : (x y : N) → Decides (same x y) (x ≡ y)) where
  abbrev pub has : List N → N → Bool
  has nets net = list_any (same net) nets

  pub same_is : (x y : N) → same x y ≡ true → x ≡ y
  same_is x y is = (decides x y).0 is

  pub is_same : (x : N) → same x x ≡ true
  is_same x = (decides x x).1 refl

  pub same_back : (x y : N) → same x y ≡ false → same y x ≡ false
  same_back x y is = elim (cases_Bool (same y x)) [
    | inl e ↦ absurd (both_ways (same x y) is ((decides x y).1 (sym (same_is y x e))))
    | inr e ↦ e
  ]

  -- what passes a test stays, and nothing else comes
  step_in : (p : N → Bool) (z : N) (zs : List N) (x : N) (b : Bool) → p z ≡ b → (same x z ≡ true → p z ≡ true) → (has zs x ≡ true → has (filter p zs) x ≡ true) → has (z ∷ zs) x ≡ true → has (cond b (z ∷ filter p zs) (filter p zs)) x ≡ true
  step_in p z zs x true e ok rest is = elim (or_cases (same x z) (has zs x) is) [
    | inl h ↦ or_left (same x z) (has (filter p zs) x) h
    | inr h ↦ or_right (same x z) (has (filter p zs) x) (rest h)
  ]
  step_in p z zs x false e ok rest is = elim (or_cases (same x z) (has zs x) is) [
    | inl h ↦ absurd (both_ways (p z) e (ok h))
    | inr h ↦ rest h
  ]

  filter_has : (p : N → Bool) (x : N) → ((z : N) → same x z ≡ true → p z ≡ true) → (zs : List N) → has zs x ≡ true → has (filter p zs) x ≡ true
  filter_has p x ok [] is = is
  filter_has p x ok (z ∷ zs) is = step_in p z zs x (p z) refl (ok z) (filter_has p x ok zs) is

  step_out : (p : N → Bool) (z : N) (zs : List N) (x : N) (b : Bool) → (has (filter p zs) x ≡ true → has zs x ≡ true) → has (cond b (z ∷ filter p zs) (filter p zs)) x ≡ true → has (z ∷ zs) x ≡ true
  step_out p z zs x true rest is = elim (or_cases (same x z) (has (filter p zs) x) is) [
    | inl h ↦ or_left (same x z) (has zs x) h
    | inr h ↦ or_right (same x z) (has zs x) (rest h)
  ]
  step_out p z zs x false rest is = or_right (same x z) (has zs x) (rest is)

  has_filter : (p : N → Bool) (x : N) (zs : List N) → has (filter p zs) x ≡ true → has zs x ≡ true
  has_filter p x [] is = is
  has_filter p x (z ∷ zs) is = step_out p z zs x (p z) (has_filter p x zs) is

  -- each net once
  pub once_has : (xs : List N) (x : N) → has xs x ≡ true → has (once same xs) x ≡ true
  once_has [] x is = is
  once_has (y ∷ ys) x is = elim (cases_Bool (same x y)) [
    | inl e ↦ or_left (same x y) (has (filter (λ other. not (same other y)) (once same ys)) x) e
    | inr e ↦ or_right (same x y) (has (filter (λ other. not (same other y)) (once same ys)) x) (filter_has (λ other. not (same other y)) x (λ z h. ap not (subst (λ w. same w y ≡ false) (same_is x z h) e)) (once same ys) (once_has ys x (elim (or_cases (same x y) (has ys x) is) [ inl h ↦ absurd (both_ways (same x y) e h) | inr h ↦ h ])))
  ]

  pub has_once : (xs : List N) (x : N) → has (once same xs) x ≡ true → has xs x ≡ true
  has_once [] x is = is
  has_once (y ∷ ys) x is = elim (or_cases (same x y) (has (filter (λ other. not (same other y)) (once same ys)) x) is) [
    | inl h ↦ or_left (same x y) (has ys x) h
    | inr h ↦ or_right (same x y) (has ys x) (has_once ys x (has_filter (λ other. not (same other y)) x (once same ys) h))
  ]

  -- each input stands once, so that there are no more than nets
  distinct_filter : (p : N → Bool) (xs : List N) → IsDistinct same xs → IsDistinct same (filter p xs)
  unfolding IsDistinct
  distinct_filter p [] all = all
  distinct_filter p (x ∷ xs) all = step (p x) (distinct_filter p xs all.1)
    where
      step : (b : Bool) → IsDistinct same (filter p xs) → IsDistinct same (cond b (x ∷ filter p xs) (filter p xs))
      step true rest = (all_filter (λ y. same x y ≡ false) p xs all.0, rest)
      step false rest = rest

  others : (x : N) (xs : List N) → AllByRecursion (λ y. same x y ≡ false) (filter (λ other. not (same other x)) xs)
  others x xs = all_passed (λ y. Unit {0}) (λ y. same x y ≡ false) (λ other. not (same other x)) (λ y any is. same_back y x (not-true (same y x) is)) xs (anything xs)
    where
      anything : (ys : List N) → AllByRecursion (λ y. Unit {0}) ys
      anything [] = tt
      anything (y ∷ ys) = (tt, anything ys)

  none_distinct : IsDistinct same []
  unfolding IsDistinct
  none_distinct = tt

  pub once_distinct : (xs : List N) → IsDistinct same (once same xs)
  once_distinct [] = none_distinct
  once_distinct (x ∷ xs) = IsDistinct-cons same x (filter (λ other. not (same other x)) (once same xs)) (others x (once same xs)) (distinct_filter (λ other. not (same other x)) (once same xs) (once_distinct xs))

  pub equivalence : IsEquivalence same
  equivalence =
      record {
        refl = λ x. is_same x;
        symm = λ x y. same_bool (same x y) (same y x) (λ e. (decides y x).1 (sym ((decides x y).0 e))) (λ e. (decides x y).1 (sym ((decides y x).0 e)));
        congr = λ x y z e. ap (λ w. same w z) ((decides x y).0 e);
      }
