-- Marks on nets.
use Rattle.std.specs.Prelude.{◌≡◌, ℕ, ◌<◌, Bool, false, List, length, slice_get, unwrap_or}
use Rattle.cg_net.specs.NetSets.{is_in}

-- whether a net has a mark; one past the end of the marks has none
abbrev pub is_marked : List Bool → ℕ → Bool
is_marked marks net = unwrap_or (slice_get marks net) false

-- the marks are those of these nets
abbrev pub AreMarked : List Bool → List ℕ → Type 0
AreMarked marks nets = (net : ℕ) → is_marked marks net ≡ is_in nets net

-- the marks of the first n nets are those of a test
pub record AreMarksOf (marks : List Bool) (n : ℕ) (test : ℕ → Bool) : Type 0 where
  pub fits : length marks ≡ n
  pub tells : (net : ℕ) → net < n → is_marked marks net ≡ test net
