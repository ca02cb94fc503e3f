-- Rows of a cover, read place by place.
use Rattle.std.proofs.Common.{◌≡◌, ℕ, Bool, ◌+◌, ◌<◌, List, [], ◌∷◌, ◌++◌, length, drop, get_or, Option, None, Some, refl, add-one}
use Rattle.std.proofs.Common.{drop-cons, append_assoc}
use Rattle.std.specs.List.{AllByRecursion}
use Rattle.std.specs.Option.{option_map, option_and_then}
use Rattle.cg_blif_text.specs.Rows.{row_place, row_places}

-- places behind those in front
abbrev pub places_behind : List (Option Bool) → Option (List (Option Bool)) → Option (List (Option Bool))
places_behind front rest = option_map (λ places. front ++ places) rest

pub places_of-drop : (word : List ℕ) (i : ℕ) → i < length word → row_places (drop i word) ≡ option_and_then (λ place. option_map (λ places. place ∷ places) (row_places (drop (i + 1) word))) (row_place (get_or word i 0))
places_of-drop word i below = rw (add-one, drop-cons word i 0) refl

pub places_behind-push : (front : List (Option Bool)) (place : Option Bool) (rest : Option (List (Option Bool))) → places_behind front (option_map (λ places. place ∷ places) rest) ≡ places_behind (front ++ place ∷ []) rest
places_behind-push front place None = refl
places_behind-push front place (Some places) = rw (append_assoc) refl

-- one row more of so many places
pub fits_more : (n : ℕ) (rows : List (List (Option Bool))) (row : List (Option Bool)) → AllByRecursion (λ r. length r ≡ n) rows → length row ≡ n → AllByRecursion (λ r. length r ≡ n) (rows ++ row ∷ [])
fits_more n [] row fit long = (long, tt)
fits_more n (first ∷ rows) row fit long = (fit.0, fits_more n rows row fit.1 long)

pub ruleset rows = (places_of-drop, places_behind-push)
