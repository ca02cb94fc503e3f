-- A list of places, cut into rows.
use Rattle.std.specs.Prelude.{ℕ, zero, suc, Bool, List, [], ◌∷◌, Option, drop, take}

-- so many rows of so many places each
abbrev pub cut_rows : ℕ → ℕ → List (Option Bool) → List (List (Option Bool))
cut_rows width zero places = []
cut_rows width (suc count) places = take width places ∷ cut_rows width count (drop width places)
