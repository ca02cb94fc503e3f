-- Bits that are put at nets, one after another.
use Rattle.std.specs.Prelude.{ℕ, Bool, List, [], ◌∷◌, slice_set}

-- the list with these bits at these nets
abbrev pub put_bits : List ℕ → List Bool → List Bool → List Bool
put_bits [] bits values = values
put_bits (net ∷ nets) [] values = values
put_bits (net ∷ nets) (b ∷ bits) values = put_bits nets bits (slice_set values net b)
