-- Literals that are put at nets.
use Rattle.std.specs.Prelude.{◌≡◌, ℕ, Bool, true, if◌then◌else◌, List, [], length, slice_get, slice_index_or, Some, IsTrue}
use Rattle.std.specs.Option.{option_map_or}
use Rattle.cg_cell.specs.Domain.{AreValid, Seen}
use Rattle.cg_aig.specs.Aig.{aig_ops, inverse}
use Rattle.cg_netlist.specs.Circuit.{RegisterCell, shown_nets}
use Rattle.cg_net.specs.NetSets.{is_in}
use Rattle.cg_machine.specs.Machine.{MachineData}

-- literals were put at these nets: there they are those of g, and what was that of g elsewhere still is
pub record Fills (g : ℕ → ℕ) (nets : List ℕ) (old new : List ℕ) : Type 0 where
  pub keeps : (y : ℕ) → slice_index_or old y 0 ≡ g y → slice_index_or new y 0 ≡ g y
  pub fills : (y : ℕ) → is_in nets y ≡ true → slice_index_or new y 0 ≡ g y

-- Literals were put at these nets: those of each g that agrees with them, and valid ones where what they come from is.
pub record Puts (agrees : (ℕ → ℕ) → Type 0) (comes : Seen → Type 0) (nets : List ℕ) (old new : List ℕ) : Type 0 where
  pub fills : (g : ℕ → ℕ) → agrees g → Fills g nets old new
  pub valid : (s : Seen) → comes s → AreValid aig_ops s old → AreValid aig_ops s new
  pub long : length new ≡ length old

-- what an output shows of the state v: that, or its inverse
abbrev pub shown_of : ℕ → Bool → ℕ
shown_of v inverted = if inverted then inverse v else v

-- g has at these outputs what they show of the state v
abbrev pub AgreesAt : List (ℕ × Bool) → ℕ → (ℕ → ℕ) → Type 0
AgreesAt outputs v g = (k y : ℕ) (inverted : Bool) → slice_get outputs k ≡ Some (y, inverted) → shown_of v inverted ≡ g y

-- the same of register r, and of all registers
abbrev pub AgreesWith : MachineData → ℕ → ℕ → (ℕ → ℕ) → Type 0
AgreesWith m r v g = (cell : RegisterCell ℕ ℕ) → slice_get m.circuit.registers r ≡ Some cell → AgreesAt cell.outputs v g

abbrev pub AgreesWithAll : MachineData → (ℕ → ℕ) → (ℕ → ℕ) → Type 0
AgreesWithAll m states g = (r : ℕ) → AgreesWith m r (states r) g

-- a literal is valid in a list
abbrev pub IsValid : ℕ → Seen → Type 0
IsValid v s = IsTrue (aig_ops.is_valid s v)

-- the nets at which register r shows its bit
abbrev pub nets_shown : MachineData → ℕ → List ℕ
nets_shown m r = option_map_or shown_nets (slice_get m.circuit.registers r) []
