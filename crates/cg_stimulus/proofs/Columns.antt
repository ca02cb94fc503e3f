-- The column of a name among names that differ is the place at which it stands.
use Rattle.std.proofs.Common.{◌≡◌, ◌≢◌, ℕ, ◌+◌, ◌<◌, Bool, true, false, cond, List, [], ◌∷◌, length, nat_eq, nat_lt}
use Rattle.std.proofs.Common.{slice_get, get_or, Option, None, Some, MatchOption, is_some, refl, ap, sym, ◌∙◌, arith, inl, inr}
use Rattle.std.specs.List.{AllPairs, list_any, position_from, position_or_len}
use Rattle.std.proofs.lemmas.Bool.{cases_Bool, or_parts}
use Rattle.std.proofs.lemmas.Bool.Decides.{Decides-ltb}
use Rattle.std.proofs.lemmas.Iterator.Adapters.{position_from-zero}
use Rattle.std.proofs.lemmas.List.Sums.{position_or_len_is}
use Rattle.std.proofs.lemmas.Option.{get_or_from_slice_get, slice_get_within}
use Rattle.std.proofs.lemmas.Slice.Eq.{bytes_eq-Decides}
use lib.Pointwise.{pointwise}
use Rattle.cg_net.specs.Names.{is_known}
use Rattle.cg_net.proofs.NamesInOrder.{known_there}
use Rattle.cg_stimulus.specs.Reading.{column_of}

-- where no item passes a test there is no first one
none_from : {X : Type 0} (test : X → Bool) (i : ℕ) (xs : List X) → list_any test xs ≡ false → position_from test i xs ≡ None
none_from test i [] none = refl
none_from test i (x ∷ xs) none =
    let parts = or_parts (test x) (list_any test xs) none in
    ap (λ b. cond b (Some i) (position_from test (i + 1) xs)) parts.0 ∙ none_from test (i + 1) xs parts.1

-- a name that is none of these has no column
no_column : (names : List (List ℕ)) (name : List ℕ) → is_known names name ≡ false → column_of names name ≡ None
no_column names name unknown = position_from-zero (pointwise nat_eq name) names ∙ none_from (pointwise nat_eq name) 0 names unknown

module _ (names : List (List ℕ)) (name : List ℕ) (i : ℕ) (at : slice_get names i ≡ Some name) where
  within : i < length names
  within = slice_get_within names i name at

  here : name ≡ get_or names i []
  here = sym (get_or_from_slice_get names i name [] at)

  passes : pointwise nat_eq name (get_or names i []) ≡ true
  passes = (bytes_eq-Decides name (get_or names i [])).1 here

  -- where names differ, its place is its column
  column_there : AllPairs (λ n other. n ≢ other) names → column_of names name ≡ Some i
  column_there different = ap (λ n. cond (nat_lt n (length names)) (Some n) None) place ∙ ap (λ b. cond b (Some i) None) ((Decides-ltb i (length names)).1 within)
    where
      earlier : (k : ℕ) → k < i → pointwise nat_eq name (get_or names k []) ≡ false
      earlier k before = elim (cases_Bool (pointwise nat_eq name (get_or names k []))) [
        | inl same ↦ absurd (different k i [] before within (sym ((bytes_eq-Decides name (get_or names k [])).0 same) ∙ here))
        | inr other ↦ other
      ]

      place : position_or_len (pointwise nat_eq name) names ≡ i
      place = position_or_len_is (pointwise nat_eq name) names i [] (omega (arith, within)) earlier (λ _. passes)

-- what is found of a name among names that differ is its column
pub found_column : (names : List (List ℕ)) (name : List ℕ) (found : Option ℕ) → AllPairs (λ n other. n ≢ other) names
    → MatchOption found (is_known names name ≡ false) (λ i. slice_get names i ≡ Some name) → found ≡ column_of names name
found_column names name None different is = sym (no_column names name is)
found_column names name (Some i) different is = sym (column_there names name i is different)

-- a name is found exactly where it is known
pub found_known : (names : List (List ℕ)) (name : List ℕ) (found : Option ℕ) → MatchOption found (is_known names name ≡ false) (λ i. slice_get names i ≡ Some name)
    → is_some found ≡ is_known names name
found_known names name None is = sym is
found_known names name (Some i) is = sym (known_there names i name is)
