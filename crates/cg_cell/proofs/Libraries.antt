-- Cells under their names, in the order of a library.
use Rattle.std.proofs.Common.{◌≡◌, ℕ, suc, subst, ◌+◌, Bool, true, false, not, cond, List, [], ◌∷◌, ◌++◌, length, map, position}
use Rattle.std.proofs.Common.{Option, None, Some, refl, ap, sym, ◌∙◌, nat_lt, is_some, ◌<◌, ◌≤◌, IfSome, eqb, length-append, arith}
use Rattle.std.specs.List.{AllByRecursion, position_or_len}
use Rattle.std.specs.Str.{bytes_eq}
use Rattle.std.specs.Map.{lookup}
use Rattle.std.proofs.lemmas.List.Folds.{position_or_len_push}
use Rattle.std.proofs.lemmas.List.Sums.{prefix_len-le-length}
use Rattle.std.proofs.lemmas.Bool.Decides.{nat_tests}
use Rattle.indexmap.proofs.MapLemmas.{some_index}
use Rattle.cg_cell.specs.Cell.{CellData, IsCell}
use Rattle.cg_cell.specs.Fit.{is_fit}
use Rattle.cg_cell.specs.declared.fit.FitKind.{FitKind}
use Rattle.cg_cell.specs.Library.{AreNamed, find_cell, first_fit, noted}

module _ {K : Type 0} (bytes : K → List ℕ) where
  same_place : (name : List ℕ) (es : List (K × CellData)) → AreNamed bytes es → position_or_len (λ k. bytes_eq name (bytes k)) (map (λ e. e.0) es) ≡ position_or_len (λ cell. bytes_eq name cell.name) (map (λ e. e.1) es)
  same_place name [] named = refl
  same_place name (e ∷ es) named = ap (λ n. cond (not (bytes_eq name n)) (1 + position_or_len (λ k. bytes_eq name (bytes k)) (map (λ e. e.0) es)) 0) named.0
      ∙ ap (λ n. cond (not (bytes_eq name e.1.name)) (1 + n) 0) (same_place name es named.1)

  same_length : (es : List (K × CellData)) → length (map (λ e. e.0) es) ≡ length (map (λ e. e.1) es)
  same_length [] = refl
  same_length (e ∷ es) = ap suc (same_length es)

  -- a name stands at the place of its cell
  pub same_position : (name : List ℕ) (es : List (K × CellData)) → AreNamed bytes es → position (λ k. bytes_eq name (bytes k)) (map (λ e. e.0) es) ≡ find_cell name (map (λ e. e.1) es)
  same_position name es named = ap (λ n. cond (nat_lt n (length (map (λ e. e.0) es))) (Some n) None) (same_place name es named)
      ∙ ap (λ m. cond (nat_lt (position_or_len (λ cell. bytes_eq name cell.name) (map (λ e. e.1) es)) m) (Some (position_or_len (λ cell. bytes_eq name cell.name) (map (λ e. e.1) es))) None) (same_length es)

  -- one more cell under its name
  pub AreNamed-push : (es : List (K × CellData)) (k : K) (cell : CellData) → AreNamed bytes es → bytes k ≡ cell.name → AreNamed bytes (es ++ (k, cell) ∷ [])
  AreNamed-push [] k cell named e = (e, tt)
  AreNamed-push (f ∷ es) k cell named e = (named.0, AreNamed-push es k cell named.1 e)

first_of_more : (a n b m : ℕ) (here : Bool) → a ≤ n → b ≡ cond (eqb a n) (n + cond here 0 1) a → m ≡ n + 1 → cond (nat_lt b m) (Some b) None ≡ noted (cond (nat_lt a n) (Some a) None) n here
first_of_more a n b m true below is long = grind (arith, nat_tests)
first_of_more a n b m false below is long = grind (arith, nat_tests)

-- the first cell of one more
pub position-push : {X : Type 0} (p : X → Bool) (xs : List X) (x : X) → position p (xs ++ x ∷ []) ≡ noted (position p xs) (length xs) (p x)
position-push p xs x = first_of_more (position_or_len p xs) (length xs) (position_or_len p (xs ++ x ∷ [])) (length (xs ++ x ∷ [])) (p x)
    (prefix_len-le-length (λ y. not (p y)) xs) (position_or_len_push p xs x) (length-append xs (x ∷ []))

pub values-push : {K X : Type 0} (es : List (K × X)) (k : K) (x : X) → map (λ e. e.1) (es ++ (k, x) ∷ []) ≡ map (λ e. e.1) es ++ x ∷ []
values-push [] k x = refl
values-push (e ∷ es) k x = ap (λ ys. e.1 ∷ ys) (values-push es k x)

-- a name that no cell has
pub none_there : {K : Type 0} (bytes : K → List ℕ) (name : List ℕ) (es : List (K × CellData)) → AreNamed bytes es → find_cell name (map (λ e. e.1) es) ≡ None
    → lookup (λ k. bytes_eq name (bytes k)) es ≡ None
none_there bytes name es named none = absent (lookup (λ k. bytes_eq name (bytes k)) es) (sym (some_index (λ k. bytes_eq name (bytes k)) es) ∙ ap is_some (same_position bytes name es named ∙ none))
  where
    absent : (o : Option CellData) → is_some o ≡ false → o ≡ None
    absent None e = refl
    absent (Some cell) e = cc

all_push : (cells : List CellData) (cell : CellData) → AllByRecursion IsCell cells → IsCell cell → AllByRecursion IsCell (cells ++ cell ∷ [])
all_push [] cell all is = (is, tt)
all_push (first ∷ cells) cell all is = (all.0, all_push cells cell all.1 is)

-- one more cell among cells
pub cells_push : (cells : List CellData) (cell : CellData) (new : List CellData) → AllByRecursion IsCell cells → IsCell cell → new ≡ cells ++ cell ∷ [] → AllByRecursion IsCell new
cells_push cells cell new all is added = subst (AllByRecursion IsCell) (sym added) (all_push cells cell all is)

-- the first of a kind, after one more cell is looked at
pub noted_fit : (kind : FitKind) (cells : List CellData) (cell : CellData) (new : List CellData) (first : Option ℕ) (number : ℕ) (fits : Bool) (result : Option ℕ)
    → first ≡ first_fit kind cells → number ≡ length cells → fits ≡ is_fit kind cell → new ≡ cells ++ cell ∷ [] → result ≡ noted first number fits → result ≡ first_fit kind new
noted_fit kind cells cell new first number fits result e f g h k = k ∙ ap (λ o. noted o number fits) e ∙ ap (λ n. noted (first_fit kind cells) n fits) f ∙ ap (noted (first_fit kind cells) (length cells)) g
    ∙ sym (position-push (is_fit kind) cells cell) ∙ ap (first_fit kind) (sym h)

-- the place of an element is within the list
pub position-within : {X : Type 0} (test : X → Bool) (xs : List X) (place : Option ℕ) → place ≡ position test xs → IfSome place (λ k. k < length xs)
position-within test xs place e = subst (λ (o : Option ℕ). IfSome o (λ k. k < length xs)) (sym e) (below (position_or_len test xs) (length xs))
  where
    below : (n m : ℕ) → IfSome (cond (nat_lt n m) (Some n) None) (λ k. k < m)
    below n m = pick (nat_lt n m) refl
      where
        pick : (b : Bool) → nat_lt n m ≡ b → IfSome (cond b (Some n) None) (λ k. k < m)
        pick true e = grind (arith, nat_tests)
        pick false e = tt
