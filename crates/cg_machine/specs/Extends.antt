-- What a machine keeps where gates and delay registers are added to it, and what these show.
use Rattle.std.specs.Prelude.{◌≡◌, ℕ, ◌<◌, ◌≤◌, Bool, true, List, length, slice_get, take}
use Rattle.cg_cell.specs.Cover.{cover_value}
use Rattle.cg_cell.specs.declared.fit.FitKind.{FitKind}
use Rattle.cg_netlist.specs.Circuit.{data_inputs}
use Rattle.cg_net.specs.NetSets.{is_in}
use Rattle.cg_netlist.specs.Moment.{bit, values_at}
use Rattle.cg_machine.specs.Added.{Added}
use Rattle.cg_machine.specs.Gates.{HasInputs, gate_cover}
use Rattle.cg_machine.specs.Machine.{IsInputs, IsMachine, IsNet, IsState, MachineData, enable_of, step, values}

-- the bits of the registers that m has, in a state of a machine with more of them
abbrev pub old : MachineData → List Bool → List Bool
old m state = take (length m.circuit.registers) state

-- n is m with gates and delay registers added, some of them or none: all that m has stands in n under the same numbers,
-- and m's nets have in n the bits that they have in m
pub record Extends (m n : MachineData) : Type 0 where
  pub own : n.own_registers ≡ m.own_registers
  pub clock : n.circuit.clock ≡ m.circuit.clock
  pub inputs : data_inputs n.circuit ≡ data_inputs m.circuit
  pub outputs : n.circuit.outputs ≡ m.circuit.outputs
  pub names : length m.circuit.names ≤ length n.circuit.names
  pub count : length m.circuit.registers ≤ length n.circuit.registers
  pub registers : (r : ℕ) → r < length m.circuit.registers → slice_get n.circuit.registers r ≡ slice_get m.circuit.registers r
  pub enables : (r : ℕ) → r < length m.circuit.registers → enable_of n r ≡ enable_of m r
  pub fronts : (state inputs : List Bool) → IsState n state → IsInputs m inputs → (net : ℕ) → net < length m.circuit.names
      → slice_get (values n state inputs) net ≡ slice_get (values m (old m state) inputs) net

-- what a gate takes: as many nets as its kind has inputs, none of them the clock
pub record GateFits (m : MachineData) (kind : FitKind) (inputs : List ℕ) : Type 0 where
  pub count : HasInputs kind (length inputs)
  pub nets : (net : ℕ) → is_in inputs net ≡ true → IsNet m net

-- m with a gate, whose net shows the function of its inputs in every cycle
pub record HasGate (m : MachineData) (kind : FitKind) (inputs : List ℕ) (a : Added) : Type 0 where
  pub good : IsMachine a.machine
  pub extends : Extends m a.machine
  pub is_net : IsNet a.machine a.net
  pub registers : length a.machine.circuit.registers ≡ length m.circuit.registers
  pub shows : (state x : List Bool) → IsState a.machine state → IsInputs a.machine x
      → bit (values a.machine state x) a.net ≡ cover_value (gate_cover kind) (values_at (values a.machine state x) inputs)

-- m with a delay register of a net: its net shows its bit, and its next bit is that of the net
pub record HasDelay (m : MachineData) (net : ℕ) (a : Added) : Type 0 where
  pub good : IsMachine a.machine
  pub extends : Extends m a.machine
  pub is_net : IsNet a.machine a.net
  pub register : ℕ
  pub added : a.machine.own_registers ≤ register
  pub below : register < length a.machine.circuit.registers
  pub shows : (state x : List Bool) → IsState a.machine state → IsInputs a.machine x →
      bit (values a.machine state x) a.net ≡ bit state register
  pub takes : (state x : List Bool) → IsState a.machine state → IsInputs a.machine x →
      bit (step a.machine state x) register ≡ bit (values a.machine state x) net
