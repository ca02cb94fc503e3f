-- A list of bits, cut into rows.
use Rattle.std.specs.Prelude.{ℕ, zero, suc, Bool, List, [], ◌∷◌, drop, take}

-- so many rows of so many bits each
abbrev pub cut_rows : ℕ → ℕ → List Bool → List (List Bool)
cut_rows width zero bits = []
cut_rows width (suc count) bits = take width bits ∷ cut_rows width count (drop width bits)
