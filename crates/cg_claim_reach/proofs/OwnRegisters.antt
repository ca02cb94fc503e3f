-- The registers of a machine's own netlist.
use Rattle.std.proofs.Common.{◌≡◌, ℕ, ◌<◌, Some, slice_get, sym, ◌∙◌, ap}
use Rattle.cg_netlist.specs.Circuit.{Circuit, RegisterCell}
use Rattle.cg_machine.specs.Added.{own_netlist}
use Rattle.cg_machine.specs.Machine.{MachineData}
use Rattle.cg_machine.proofs.Lists.{take_get}

-- a register of the netlist is the machine's
pub own_register : (m : MachineData) (c : Circuit) (reg : ℕ) (v : RegisterCell ℕ ℕ) → c ≡ own_netlist m → reg < m.own_registers → slice_get c.registers reg ≡ Some v → slice_get m.circuit.registers reg ≡ Some v
own_register m c reg v own_is low is = sym (take_get m.own_registers m.circuit.registers reg low) ∙ (ap (λ (n : Circuit). slice_get n.registers reg) (sym own_is) ∙ is)

-- a register of the machine is the netlist's, where it is one of these
pub machine_register : (m : MachineData) (c : Circuit) (reg : ℕ) (v : RegisterCell ℕ ℕ) → c ≡ own_netlist m → reg < m.own_registers → slice_get m.circuit.registers reg ≡ Some v → slice_get c.registers reg ≡ Some v
machine_register m c reg v own_is low is = ap (λ (n : Circuit). slice_get n.registers reg) own_is ∙ (take_get m.own_registers m.circuit.registers reg low ∙ is)
