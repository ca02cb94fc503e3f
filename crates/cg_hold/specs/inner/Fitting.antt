-- Buffers that fit a machine.
use Rattle.std.specs.Prelude.{◌≡◌, ◌≤◌, ℕ, List, length}
use Rattle.cg_machine.specs.Machine.{MachineData}
use Rattle.cg_netlist.specs.Netlist.{widest_of}

-- there is a word for each net and each register, and for each input of any cell
pub record FitWords (m : MachineData) (nets state scratch : List ℕ) : Type 0 where
  pub nets_fit : length nets ≡ length m.circuit.names
  pub state_fits : length state ≡ length m.circuit.registers
  pub scratch_fits : widest_of m.circuit.cells ≤ length scratch
