-- What a machine keeps: its netlist, and beside it what was added.
use Rattle.std.specs.Prelude.{◌≡◌, ℕ, ◌+◌, ◌++◌, List, length, map, replicate, slice_get, slice_index, unwrap_or, Option, None}
use Rattle.std.specs.Prelude.{Some}
use Rattle.std.specs.List.{AllByRecursion, range_with_len}
use Rattle.std.specs.Fmt.{decimal}
use Rattle.cg_cell.specs.declared.fit.FitKind.{FitKind}
use Rattle.cg_cell.specs.declared.fit.FitKind.TheVariants.{Inv, And2}
use Rattle.cg_netlist.specs.Circuit.{Circuit, RegisterCell}
use Rattle.cg_netlist.specs.Drivers.{IsDriver}
use Rattle.cg_netlist.specs.Netlist.{IsNetlist}
use Rattle.cg_netlist.specs.declared.driver.Driver.{Driver}
use Rattle.cg_machine.specs.Gates.{AddedGate, HasInputs, gate_cell}
use Rattle.cg_machine.specs.Machine.{IsMachine, MachineData, delay_cell}
use Rattle.cg_machine.specs.declared.gates.GateKey.{GateKey}
use Rattle.cg_machine.specs.declared.gates.GateKey.TheVariants.{Inverter, And, Or}

-- the delay register of a net with its output
abbrev pub delay_of : Circuit → ℕ × ℕ → RegisterCell ℕ ℕ
delay_of c delay = delay_cell (unwrap_or c.clock 0) delay.0 delay.1

-- a netlist with these gates and delay registers
abbrev pub grown : Circuit → List ℕ → List AddedGate → List (ℕ × ℕ) → Circuit
grown c prefix gates delays = record c {
  names = c.names ++ map (λ k. prefix ++ decimal k) (range_with_len 0 (length gates + length delays));
  cells = c.cells ++ map gate_cell gates;
  registers = c.registers ++ map (delay_of c) delays;
}

-- the machine of all that is kept: `enables` are those of the netlist's own registers, and delay registers have none
abbrev pub kept : Circuit → List ℕ → List (Option ℕ) → List AddedGate → List (ℕ × ℕ) → MachineData
kept c prefix enables gates delays = record {
  circuit = grown c prefix gates delays;
  enables = enables ++ replicate (length delays) None;
  gates = gates;
  own_cells = length c.cells;
  own_registers = length c.registers;
  prefix = prefix;
}

-- what drives each net behind the first n, in order of addition
pub record AreAdded (c : Circuit) (n : ℕ) (drivers : List Driver) : Type 0 where
  pub long : n + length drivers ≡ length c.names
  pub each : (k : ℕ) (driver : Driver) → slice_get drivers k ≡ Some driver → IsDriver c (n + k) driver

-- what is kept makes a machine, and tells what drives each added net
pub record IsKept (c : Circuit) (name : List ℕ) (enables : List (Option ℕ)) (gates : List AddedGate) (delays : List (ℕ × ℕ))
    (drivers : List Driver) : Type 0 where
  pub netlist : IsNetlist c
  pub enables_long : length enables ≡ length c.registers
  pub machine : IsMachine (kept c name enables gates delays)
  pub added : AreAdded (grown c name gates delays) (length c.names) drivers

-- the key by which a gate is found
abbrev pub key_of : FitKind → List ℕ → GateKey
key_of Inv inputs = Inverter (slice_index inputs 0)
key_of And2 inputs = And (slice_index inputs 0) (slice_index inputs 1)
key_of _ inputs = Or (slice_index inputs 0) (slice_index inputs 1)

-- each gate has as many inputs as its kind has, and stands under its key
abbrev pub IsFiled : GateKey × AddedGate → Type 0
IsFiled entry = HasInputs entry.1.kind (length entry.1.inputs) × (entry.0 ≡ key_of entry.1.kind entry.1.inputs)

abbrev pub AreFiled : List (GateKey × AddedGate) → Type 0
AreFiled entries = AllByRecursion IsFiled entries
