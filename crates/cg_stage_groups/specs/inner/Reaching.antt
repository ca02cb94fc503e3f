-- Nets that a walk back from some nets has found.
use Rattle.std.specs.Prelude.{◌≡◌, ℕ, ◌<◌, true, List, length, slice_get, take, Some}
use Rattle.cg_netlist_cone.specs.Cone.{IsInCone}
use Rattle.cg_machine.specs.Added.{own_netlist}
use Rattle.cg_machine.specs.Machine.{MachineData}
use Rattle.cg_netlist.specs.Circuit.{LogicCell}
use Rattle.cg_net.specs.NetSets.{is_in}

-- all are nets of the machine's netlist
abbrev pub AreOwn : MachineData → List ℕ → Type 0
AreOwn m nets = (y : ℕ) → is_in nets y ≡ true → y < length (own_netlist m).names

-- the roots were found, only nets of their cone were, and with the output of a cell among the first `next` its inputs
pub record IsReached (m : MachineData) (roots : List ℕ) (next : ℕ) (found : List ℕ) : Type 0 where
  pub own : AreOwn m found
  pub starts : (y : ℕ) → is_in roots y ≡ true → is_in found y ≡ true
  pub only : (y : ℕ) → is_in found y ≡ true → IsInCone m.circuit.cells roots y
  pub closed : (k : ℕ) (cell : LogicCell ℕ) → slice_get m.circuit.cells k ≡ Some cell → is_in (take next found) cell.output ≡ true
      → (x : ℕ) → is_in cell.inputs x ≡ true → is_in found x ≡ true
