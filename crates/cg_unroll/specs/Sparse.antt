-- Values that are 0 but where one was put.
use Rattle.std.specs.Prelude.{◌≡◌, ◌<◌, ℕ, false, List, length, slice_index_or}
use Rattle.std.specs.List.{All}
use Rattle.cg_net.specs.NetSets.{is_in}

-- each value is 0
abbrev pub AreZero : List ℕ → Type 0
AreZero values = (x : ℕ) → slice_index_or values x 0 ≡ 0

-- the places at which a value was put are there, and at all others it is 0
pub record IsSparse (values written : List ℕ) : Type 0 where
  pub within : All (λ x. x < length values) written
  pub others : (x : ℕ) → is_in written x ≡ false → slice_index_or values x 0 ≡ 0
