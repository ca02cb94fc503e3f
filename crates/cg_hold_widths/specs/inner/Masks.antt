-- Masks of nets.
use Rattle.std.specs.Prelude.{◌≡◌, ◌==◌, ℕ, Bool, not, List, nat_eq, slice_index_or}
use Rattle.std.specs.Int.{bit_at}
use Rattle.cg_net.specs.NetSets.{is_in}

-- the mask of a net; one past the end of the masks is 0
abbrev pub mask_at : List ℕ → ℕ → ℕ
mask_at masks net = slice_index_or masks net 0

-- whether bit i of a mask is 1
abbrev pub has_bit : ℕ → ℕ → Bool
has_bit i mask = bit_at mask i == 1

-- the nets whose masks are not 0 are these
abbrev pub AreTouched : List ℕ → List ℕ → Type 0
AreTouched masks touched = (net : ℕ) → is_in touched net ≡ not (nat_eq (mask_at masks net) 0)

-- bit i of the mask of a net is 1 exactly where the net is in the i-th of these lists
abbrev pub AreMasks : (ℕ → List ℕ) → List ℕ → Type 0
AreMasks nets masks = (i y : ℕ) → has_bit i (mask_at masks y) ≡ is_in (nets i) y
