-- A table of names as a list of lists of bytes.
use Rattle.std.proofs.Common.{◌≡◌, ◌≢◌, ℕ, ◌<◌, true, false, List, [], ◌∷◌, ◌++◌, length, slice_get, get_or, Option, None}
use Rattle.std.proofs.Common.{Some, MatchOption, is_some, nat_eq, refl, ap, sym, ◌∙◌, inl, inr, arith, IfSome, if◌then◌else◌}
use Rattle.std.specs.List.{position, AllPairs, IsDistinct}
use Rattle.std.specs.Cmp.Lexicographic.{same_text, other_text}
use Rattle.std.proofs.lemmas.Option.{slice_get_cases}
use Rattle.std.proofs.lemmas.List.Quantifiers.{position-Some}
use Rattle.std.proofs.lemmas.List.{get_or_default}
use Rattle.std.proofs.lemmas.Map.Keys.{apart_from_distinct}
use lib.Pointwise.{pointwise}
use Rattle.cg_net.specs.Names.{is_known, with_name}

-- the place of a name in the table has this name
pub name_at : (names : List (List ℕ)) (name : List ℕ) (i : ℕ) → i < length names → position (pointwise nat_eq name) names ≡ Some i → slice_get names i ≡ Some name
name_at names name i within at =
    elim ((slice_get_cases names i).1) [
      | inl e ↦
          let passes : pointwise nat_eq name e.0 ≡ true = ap (pointwise nat_eq name) (sym e.3) ∙ (position-Some (pointwise nat_eq name) names i e.0 at).1 in
          e.2 ∙ ap (λ n. Some n) (sym (same_text name e.0 (sym passes)))
      | inr past ↦ let none : ⊥ = omega arith in absurd none
    ]

pub found_name : (names : List (List ℕ)) (name : List ℕ) (r : Option ℕ) → r ≡ position (pointwise nat_eq name) names → is_some r ≡ is_known names name → IfSome r (λ i. i < length names) → MatchOption r (is_known names name ≡ false) (λ i. slice_get names i ≡ Some name)
found_name names name None is found within = sym found
found_name names name (Some i) is found within = name_at names name i within (sym is)

-- two keys of a set are two names
pub different_names : (names : List (List ℕ)) → IsDistinct (pointwise nat_eq) names → AllPairs (λ name other. name ≢ other) names
different_names names distinct i j d before within same =
    elim ((slice_get_cases names j).1) [
      | inl e ↦
          let first : i < length names = omega arith in
          other_text (get_or names i e.0) (get_or names j e.0) (sym (apart_from_distinct (pointwise nat_eq) names i j e.0 distinct before within))
          (get_or_default names i e.0 d first ∙ (same ∙ get_or_default names j d e.0 within))
      | inr past ↦ let none : ⊥ = omega arith in absurd none
    ]

-- a name that was not found is not known
pub unknown_name : (names : List (List ℕ)) (name : List ℕ) (r : Option ℕ) → ((i : ℕ) → r ≡ Some i → ⊥) → is_some r ≡ is_known names name → is_known names name ≡ false
unknown_name names name None not_found found = sym found
unknown_name names name (Some i) not_found found = absurd (not_found i refl)

-- a set that takes a key that is not known has it behind the others
pub inserted_name : (names new : List (List ℕ)) (key name : List ℕ) → key ≡ name → is_known names name ≡ false → new ≡ (if is_known names key then names else names ++ key ∷ []) → new ≡ names ++ name ∷ []
inserted_name names new key name is unknown keys =
    keys ∙ (ap (λ k. if is_known names k then names else names ++ k ∷ []) is ∙ ap (λ b. if b then names else names ++ name ∷ []) unknown)

-- with a name that is known the table stays, and another goes behind the others
pub with_name-known : (names : List (List ℕ)) (name : List ℕ) → is_known names name ≡ true → with_name names name ≡ names
with_name-known names name known = ap (λ b. if b then names else names ++ name ∷ []) known

pub with_name-unknown : (names : List (List ℕ)) (name : List ℕ) → is_known names name ≡ false → with_name names name ≡ names ++ name ∷ []
with_name-unknown names name unknown = ap (λ b. if b then names else names ++ name ∷ []) unknown

-- a name that goes behind the others is the last
pub last_name : (names : List (List ℕ)) (name : List ℕ) → slice_get (names ++ name ∷ []) (length names) ≡ Some name
last_name [] name = refl
last_name (x ∷ names) name = last_name names name
