-- The literals of leaves, put at the places of data inputs and registers.
use Rattle.std.specs.Prelude.{◌≡◌, ◌<◌, ◌≤◌, ℕ, ◌+◌, ◌*◌, if◌then◌else◌, List, length, nat_eq, slice_get, slice_index_or, Option}
use Rattle.std.specs.Prelude.{Some, None}
use Rattle.cg_cell.specs.Domain.{AreValid, Seen}
use Rattle.cg_aig.specs.Aig.{aig_ops}
use Rattle.cg_machine.specs.Machine.{MachineData}
use Rattle.cg_claim.specs.declared.leaf.Leaf.{Leaf}
use Rattle.cg_claim.specs.declared.leaf.LeafSource.{LeafSource}
use Rattle.cg_claim.specs.declared.leaf.LeafSource.TheVariants.{Input, Register}
use Rattle.cg_unroll.specs.declared.tables.CopyTables.{CopyTables}
use Rattle.cg_unroll.specs.declared.tables.Sources.{Sources}
use Rattle.cg_unroll.specs.declared.tables.Sources.TheVariants.{Inputs, Registers}

-- the place of a source among the nets, where data inputs are asked for, or among the registers
abbrev pub source_place : Sources → LeafSource → Option ℕ
source_place Inputs (Input y) = Some y
source_place Inputs (Register r) = None
source_place Registers (Input y) = None
source_place Registers (Register r) = Some r

-- the place of a leaf of this copy
abbrev pub place_in : ℕ → Sources → Leaf → Option ℕ
place_in copy sources leaf = if nat_eq leaf.copy copy then source_place sources leaf.source else None

-- each leaf that has a place has one of the first n
abbrev pub ArePlaced : (Leaf → Option ℕ) → List Leaf → ℕ → Type 0
ArePlaced place leaves n = (j y : ℕ) (l : Leaf) → slice_get leaves j ≡ Some l → place l ≡ Some y → y < n

-- g has at the place of each leaf the leaf's literal
abbrev pub AgreesLeaves : (Leaf → Option ℕ) → List Leaf → (ℕ → ℕ) → Type 0
AgreesLeaves place leaves g = (j y : ℕ) (l : Leaf) → slice_get leaves j ≡ Some l → place l ≡ Some y → 2 * (j + 1) ≡ g y

-- the literals of the first k leaves stand at their places, and all other places have 0
pub record FillsLeaves (place : Leaf → Option ℕ) (leaves : List Leaf) (k : ℕ) (values : List ℕ) : Type 0 where
  pub keeps : (g : ℕ → ℕ) → AgreesLeaves place leaves g → (y : ℕ) → 0 ≡ g y → slice_index_or values y 0 ≡ g y
  pub fills : (g : ℕ → ℕ) → AgreesLeaves place leaves g → (j y : ℕ) (l : Leaf) → j < k → slice_get leaves j ≡ Some l →
      place l ≡ Some y → slice_index_or values y 0 ≡ g y

-- a literal of the list stands at each of at least so many places
pub record IsLiteralTable (places : ℕ) (s : Seen) (values : List ℕ) : Type 0 where
  pub valid : AreValid aig_ops s values
  pub long : places ≤ length values

-- and these are the literals of leaves
pub record HoldsLeaves (place : Leaf → Option ℕ) (leaves : List Leaf) (places : ℕ) (s : Seen) (values : List ℕ) : Type 0 where
  pub filled : FillsLeaves place leaves (length leaves) values
  pub table : IsLiteralTable places s values

-- a copy has a literal of the list for each net and for each register
pub record IsCopy (m : MachineData) (s : Seen) (copy : CopyTables) : Type 0 where
  pub nets : IsLiteralTable (length m.circuit.names) s copy.nets
  pub states : IsLiteralTable (length m.circuit.registers) s copy.states
