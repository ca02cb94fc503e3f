-- Rows and covers, place by place and row by row.
use Rattle.std.proofs.Common.{◌≡◌, ℕ, Bool, true, false, ◌+◌, ◌<◌, List, [], ◌∷◌, length, get_or, drop, Option, ◌&&◌, refl, add-one}
use Rattle.std.proofs.Common.{drop-cons, subst, sym}
use Rattle.std.specs.List.{AllByRecursion, list_any}
use Rattle.cg_cell.specs.Cover.{HaveOneLength, agrees, row_matches}

-- what is left of a row from one place on
pub row_matches-drop : (row : List (Option Bool)) (bits : List Bool) (i : ℕ) (given : Option Bool) (bit : Bool) → i < length row → i < length bits
    → row_matches (drop i row) (drop i bits) ≡ (agrees (get_or row i given) (get_or bits i bit) && row_matches (drop (i + 1) row) (drop (i + 1) bits))
row_matches-drop row bits i given bit h k = rw (add-one, drop-cons row i given, drop-cons bits i bit) refl

-- the rows that are left decide whether some row matches, and each has a place for each bit
pub record Leaves (bits : List Bool) (rows left : List (List (Option Bool))) : Type 0 where
  pub any : list_any (λ row. row_matches row bits) left ≡ list_any (λ row. row_matches row bits) rows
  pub fits : AllByRecursion (λ row. length row ≡ length bits) left

-- the next row of those that are left
pub next_row : (bits : List Bool) (rows : List (List (Option Bool))) (i : ℕ) (row : List (Option Bool)) → i < length rows → Leaves bits rows (drop i rows)
    → Leaves bits rows (get_or rows i row ∷ drop (i + 1) rows)
next_row bits rows i row h leaves = subst (Leaves bits rows) (rw (add-one, drop-cons rows i row) refl) leaves

pub next_row-fits : (bits : List Bool) (rows : List (List (Option Bool))) (i : ℕ) (row : List (Option Bool)) → i < length rows → Leaves bits rows (drop i rows)
    → length (get_or rows i row) ≡ length bits
next_row-fits bits rows i row h leaves = (next_row bits rows i row h leaves).fits.0

pub next_row-matches : (bits : List Bool) (rows : List (List (Option Bool))) (i : ℕ) (row : List (Option Bool)) → i < length rows → Leaves bits rows (drop i rows)
    → row_matches (get_or rows i row) bits ≡ true → list_any (λ row. row_matches row bits) rows ≡ true
next_row-matches bits rows i row h leaves e = let leaves-2 = next_row bits rows i row h leaves in let any = leaves-2.any in sym (rw e at any)

pub next_row-leaves : (bits : List Bool) (rows : List (List (Option Bool))) (i : ℕ) (row : List (Option Bool)) → i < length rows → Leaves bits rows (drop i rows)
    → row_matches (get_or rows i row) bits ≡ false → Leaves bits rows (drop (i + 1) rows)
next_row-leaves bits rows i row h leaves e = let leaves-2 = next_row bits rows i row h leaves in let any = leaves-2.any in record { any = rw e at any; fits = leaves-2.fits.1 }

all_of_one_length : (m n : ℕ) (rows : List (List (Option Bool))) → m ≡ n → AllByRecursion (λ r. length r ≡ n) rows → AllByRecursion (λ r. length r ≡ m) rows
all_of_one_length m n rows e h = subst (λ k. AllByRecursion (λ r. length r ≡ k) rows) (sym e) h

-- rows of one given length have one length
pub have_one_length : (n : ℕ) (rows : List (List (Option Bool))) → AllByRecursion (λ r. length r ≡ n) rows → HaveOneLength rows
have_one_length n [] h = tt
have_one_length n (row ∷ rows) h = all_of_one_length (length row) n rows h.0 h.1

pub ruleset steps = (row_matches-drop)
