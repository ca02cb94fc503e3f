-- What a walk back has met at the edge of a cone.
use Rattle.std.specs.Prelude.{◌≡◌, ◌<◌, ℕ, Bool, true, false, not, ◌||◌, ◌&&◌, List, length, nat_eq}
use Rattle.cg_claim.specs.Reach.{feeds}
use Rattle.cg_machine.specs.Added.{own_netlist}
use Rattle.cg_machine.specs.Machine.{MachineData}
use Rattle.cg_net.specs.NetSets.{is_in}
use Rattle.cg_netlist.specs.Circuit.{data_inputs}
use Rattle.cg_netlist.specs.Drivers.{IsDriver}
use Rattle.cg_netlist.specs.declared.driver.Driver.{Driver}
use Rattle.cg_netlist.specs.declared.driver.Driver.TheVariants.{Input, Register}
use Rattle.cg_stage_list_laws.specs.Supports.{has_enable, input_cone}

-- these are data inputs of the cone of a register's inputs, and these registers are at its edge, or are the register
pub record AreMet (m : MachineData) (r : ℕ) (inputs registers : List ℕ) : Type 0 where
  pub inputs_are : (y : ℕ) → is_in inputs y ≡ true → (is_in (input_cone m r) y ≡ true) × (is_in (data_inputs m.circuit) y ≡ true)
  pub registers_are : (k : ℕ) → is_in registers k ≡ true → (nat_eq k r || feeds m (input_cone m r) k) ≡ true

-- whether a driver is a data input, or a register other than r without an enable
abbrev pub is_free : MachineData → ℕ → Driver → Bool
is_free m r Input = true
is_free m r (Register k inverted) = not (nat_eq k r) && not (has_enable m k)
is_free m r _ = false

-- a register that drives is there
abbrev pub IsThere : MachineData → Driver → Type 0
IsThere m (Register k inverted) = k < length m.circuit.registers
IsThere m _ = Unit {0}

-- such a driver drives a net of the machine's netlist
pub record IsFreeAt (m : MachineData) (r y : ℕ) : Type 0 where
  pub driver : Driver
  pub drives : IsDriver (own_netlist m) y driver
  pub free : is_free m r driver ≡ true
