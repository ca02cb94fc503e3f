-- Cells of different names, one behind the other.
use Rattle.std.proofs.Common.{◌≡◌, ◌+◌, ℕ, suc, nat_lt, Bool, true, false, cond, not, ◌||◌, List, [], ◌∷◌, ◌++◌, length, find}
use Rattle.std.proofs.Common.{IsTrue, None, Some, is_some, refl, subst, sym, ap, append_assoc, ◌∙◌, arith}
use Rattle.std.specs.List.{AllByRecursion, list_any, position_or_len}
use Rattle.std.proofs.lemmas.List.{map-append}
use Rattle.std.specs.Str.{bytes_eq}
use Rattle.std.proofs.lemmas.Bool.{false_from_ne_true, and_parts, and_from, or_parts, or_from, not-true, not_from_false}
use Rattle.std.proofs.lemmas.Bool.Decides.{nat_tests}
use Rattle.std.proofs.lemmas.List.Folds.{list_any-append}
use Rattle.std.proofs.lemmas.Slice.Eq.{bytes_eq-Decides}
use Rattle.cg_cell.specs.Cell.{CellData}
use Rattle.cg_cell.specs.Library.{find_cell, names_of, IsFound}
use Rattle.cg_cell.specs.Name.{are_distinct}

some_iff : (b : Bool) (n : ℕ) → is_some (cond b (Some n) None) ≡ b
some_iff true n = refl
some_iff false n = refl

first_below : (b any : Bool) (n long : ℕ) → nat_lt n long ≡ any → nat_lt (cond (not b) (1 + n) 0) (suc long) ≡ (b || any)
first_below true any n long h = grind (arith, nat_tests)
first_below false any n long h = grind (arith, nat_tests)

place_below : {X : Type 0} (p : X → Bool) (xs : List X) → nat_lt (position_or_len p xs) (length xs) ≡ list_any p xs
place_below p [] = refl
place_below p (x ∷ xs) = first_below (p x) (list_any p xs) (position_or_len p xs) (length xs) (place_below p xs)

any_name : (name : List ℕ) (cells : List CellData) → list_any (λ cell. bytes_eq name cell.name) cells ≡ list_any (bytes_eq name) (names_of cells)
any_name name [] = refl
any_name name (cell ∷ cells) = ap (λ (b : Bool). bytes_eq name cell.name || b) (any_name name cells)

-- a cell of a name is found where one of the names is that name
pub find_some : (name : List ℕ) (cells : List CellData) → is_some (find_cell name cells) ≡ list_any (bytes_eq name) (names_of cells)
find_some name cells =
    let test : CellData → Bool = λ (cell : CellData). bytes_eq name cell.name in
    some_iff (nat_lt (position_or_len test cells) (length cells)) (position_or_len test cells) ∙ place_below test cells ∙ any_name name cells

apart : (x y : List ℕ) → bytes_eq x y ≡ false → bytes_eq y x ≡ false
apart x y h = false_from_ne_true (bytes_eq y x) (λ same. let k : bytes_eq x y ≡ true = (bytes_eq-Decides x y).1 (sym ((bytes_eq-Decides y x).0 same)) in cc)

-- one more name behind distinct ones
pub distinct_push : (names : List (List ℕ)) (name : List ℕ) → are_distinct names ≡ true → list_any (bytes_eq name) names ≡ false → are_distinct (names ++ name ∷ []) ≡ true
distinct_push [] name h none = refl
distinct_push (other ∷ names) name h none =
    let parts = and_parts _ _ h in
    let apart_from = or_parts _ _ none in
    and_from _ _
    (not_from_false _ (list_any-append (bytes_eq other) names (name ∷ []) ∙ or_from _ _ (not-true _ parts.0) (or_from _ _ (apart name other apart_from.0) refl)))
    (distinct_push names name parts.1 apart_from.1)

-- a name is none of those before it
pub distinct_before : (names later : List (List ℕ)) (name : List ℕ) → are_distinct (names ++ name ∷ later) ≡ true → list_any (bytes_eq name) names ≡ false
distinct_before [] later name h = refl
distinct_before (other ∷ names) later name h =
    let parts = and_parts _ _ h in
    let none = or_parts _ _ (sym (list_any-append (bytes_eq other) names (name ∷ later)) ∙ not-true _ parts.0) in
    or_from _ _ (apart other name (or_parts _ _ none.1).0) (distinct_before names later name parts.1)

-- a library with one more cell whose name no cell has
pub names_push : (cells : List CellData) (cell : CellData) (new : List CellData) → IsTrue (are_distinct (names_of cells)) → find_cell cell.name cells ≡ None → new ≡ cells ++ cell ∷ [] → IsTrue (are_distinct (names_of new))
names_push cells cell new distinct absent added =
    let free : list_any (bytes_eq cell.name) (names_of cells) ≡ false = sym (find_some cell.name cells) ∙ ap is_some absent in
    let names : names_of new ≡ names_of cells ++ cell.name ∷ [] = ap names_of added ∙ map-append (λ (c : CellData). c.name) cells (cell ∷ []) in
    subst (λ ns. IsTrue (are_distinct ns)) (sym names) (distinct_push (names_of cells) cell.name distinct free)

find_behind : {X : Type 0} (p : X → Bool) (front rest : List X) → list_any p front ≡ false → find p (front ++ rest) ≡ find p rest
find_behind p [] rest none = refl
find_behind p (x ∷ front) rest none =
    let parts = or_parts _ _ none in
    ap (λ b. cond b (Some x) (find p (front ++ rest))) parts.0 ∙ find_behind p front rest parts.1

found_behind : (front rest : List CellData) → IsTrue (are_distinct (names_of (front ++ rest))) → AllByRecursion (IsFound (front ++ rest)) rest
found_behind front [] distinct = tt
found_behind front (cell ∷ rest) distinct =
    let test : CellData → Bool = λ other. bytes_eq cell.name other.name in
    let names : names_of (front ++ cell ∷ rest) ≡ names_of front ++ cell.name ∷ names_of rest = map-append (λ (c : CellData). c.name) front (cell ∷ rest) in
    let none : list_any test front ≡ false = any_name cell.name front ∙ distinct_before (names_of front) (names_of rest) cell.name (sym (ap are_distinct names) ∙ distinct) in
    let itself : bytes_eq cell.name cell.name ≡ true = (bytes_eq-Decides cell.name cell.name).1 refl in
    let here : find test (cell ∷ rest) ≡ Some cell = ap (λ b. cond b (Some cell) (find test rest)) itself in
    let whole : (front ++ cell ∷ []) ++ rest ≡ front ++ cell ∷ rest = append_assoc front (cell ∷ []) rest in (
      find_behind test front (cell ∷ rest) none ∙ here,
      subst (λ cells. AllByRecursion (IsFound cells) rest) whole (found_behind (front ++ cell ∷ []) rest (subst (λ cells. IsTrue (are_distinct (names_of cells))) (sym whole) distinct)),
    )

-- where the names are distinct, each cell is the one of its name
pub each_is_found : (cells : List CellData) → IsTrue (are_distinct (names_of cells)) → AllByRecursion (IsFound cells) cells
each_is_found cells distinct = found_behind [] cells distinct
