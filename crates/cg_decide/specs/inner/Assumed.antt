-- What nodes are equal to where a literal is 1.
use Rattle.std.specs.Prelude.{◌≡◌, ◌<◌, ◌==◌, ℕ, ◌*◌, ◌/◌, ◌%◌, Bool, true, false, if◌then◌else◌, List, length, slice_index_or}
use Rattle.cg_cell.specs.Domain.{Seen}
use Rattle.cg_aig.specs.Aig.{inverse, lit_bit, node_values, nodes}

-- a literal of the list that is equal to a node where the assumed literal is 1
pub record IsSameThere (s : Seen) (assumed node a : ℕ) : Type 0 where
  pub valid : a < 2 * nodes s
  pub same : (bits : List Bool) → lit_bit (node_values s bits) assumed ≡ true →
      lit_bit (node_values s bits) a ≡ slice_index_or (node_values s bits) node false

-- the first nodes, each with such a literal
abbrev pub Agree : Seen → ℕ → List ℕ → Type 0
Agree s assumed same = (node : ℕ) → node < length same → IsSameThere s assumed node (slice_index_or same node 0)

-- what a literal is equal to by those of the nodes
abbrev pub followed : List ℕ → ℕ → ℕ
followed same a = if a % 2 == 0 then slice_index_or same (a / 2) 0 else inverse (slice_index_or same (a / 2) 0)

-- one literal is 0 wherever another is 1
abbrev pub Excludes : Seen → ℕ → ℕ → Type 0
Excludes s assumed other = (bits : List Bool) → lit_bit (node_values s bits) assumed ≡ true →
    lit_bit (node_values s bits) other ≡ false
