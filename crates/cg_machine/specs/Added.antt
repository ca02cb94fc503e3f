-- Gates, delay registers and enables that a machine gets, as functions of the machine. What was added before is found
-- again; else it is appended, with a net of its own.
use Rattle.std.specs.Prelude.{◌≡◌, ℕ, ◌-◌, Bool, ◌&&◌, if◌then◌else◌, List, [], ◌∷◌, ◌++◌, map, length, slice_set, take, drop}
use Rattle.std.specs.Prelude.{nat_lt, Option, Some, None, Result, Ok, Err, unwrap_or, bytes_eq}
use Rattle.std.specs.List.{find, range_with_len}
use Rattle.std.specs.Option.{option_and_then, option_map, option_or}
use Rattle.cg_cell.specs.declared.fit.FitKind.{FitKind}
use Rattle.cg_limit.specs.declared.Limit.{Limit}
use Rattle.cg_limit.specs.declared.Limit.TheVariants.{Nets, Registers}
use Rattle.cg_limit.specs.declared.TheConstants.{MOST_NETS, MOST_REGISTERS}
use Rattle.cg_netlist.specs.Circuit.{Circuit, LogicCell, RegisterCell}
use Rattle.cg_netlist.specs.declared.fault.AddFault.{AddFault}
use Rattle.cg_netlist.specs.declared.fault.AddFault.TheVariants.{Limit as LimitFault}
use Rattle.cg_machine.specs.Gates.{AddedGate, gate_cell, is_same_kind}
use Rattle.cg_machine.specs.Machine.{MachineData, added_name, additions, delay_cell}
use Rattle.cg_machine.specs.Run.{with_enables}

-- whether a gate is of this kind with these inputs in this order
abbrev pub is_gate : FitKind → List ℕ → AddedGate → Bool
is_gate kind inputs gate = is_same_kind kind gate.kind && bytes_eq inputs gate.inputs

-- the output of the added gate that is asked for, if there is one
abbrev pub find_gate : MachineData → FitKind → List ℕ → Option ℕ
find_gate m kind inputs = option_map (λ gate. gate.output) (find (is_gate kind inputs) m.gates)

-- the delay registers
abbrev pub delays_of : MachineData → List (RegisterCell ℕ ℕ)
delays_of m = drop m.own_registers m.circuit.registers

-- the output of the delay register of a net, if there is one
abbrev pub first_output : List (ℕ × Bool) → Option ℕ
first_output [] = None
first_output (output ∷ outputs) = Some output.0

abbrev pub find_delay : MachineData → ℕ → Option ℕ
find_delay m net = option_and_then (λ r. first_output r.outputs) (find (λ r. bytes_eq (net ∷ []) r.inputs) (delays_of m))

-- the number and the name of the next net that is added
abbrev pub next_net : MachineData → ℕ
next_net m = length m.circuit.names

abbrev pub next_name : MachineData → List ℕ
next_name m = added_name m (additions m)

-- a netlist with one more net, which a logic cell or a register behind all others has as its output
abbrev pub push_cell : Circuit → List ℕ → LogicCell ℕ → Circuit
push_cell c name cell = record c { names = c.names ++ name ∷ []; cells = c.cells ++ cell ∷ [] }

abbrev pub push_register : Circuit → List ℕ → RegisterCell ℕ ℕ → Circuit
push_register c name r = record c { names = c.names ++ name ∷ []; registers = c.registers ++ r ∷ [] }

-- the gate that would be next; a machine with it behind all others
abbrev pub next_gate : MachineData → FitKind → List ℕ → AddedGate
next_gate m kind inputs = record { kind = kind; inputs = inputs; output = next_net m }

abbrev pub push_gate : MachineData → FitKind → List ℕ → MachineData
push_gate m kind inputs =
    record m {
      circuit = push_cell m.circuit (next_name m) (gate_cell (next_gate m kind inputs));
      gates = m.gates ++ next_gate m kind inputs ∷ [];
    }

-- the delay register that would be next; a machine with it behind all others
abbrev pub next_delay : MachineData → ℕ → RegisterCell ℕ ℕ
next_delay m net = delay_cell (unwrap_or m.circuit.clock 0) net (next_net m)

abbrev pub push_delay : MachineData → ℕ → MachineData
push_delay m net = record m { circuit = push_register m.circuit (next_name m) (next_delay m net); enables = m.enables ++ None ∷ [] }

-- a machine and a net of it
pub record Added : Type 0 where
  pub machine : MachineData
  pub net : ℕ

-- the net that was found in the machine as it is, or else the new net in the machine that has it
abbrev pub or_push : MachineData → MachineData → Option ℕ → Added
or_push m pushed None = record { machine = pushed; net = next_net m }
or_push m pushed (Some net) = record { machine = m; net = net }

-- a gate, a delay register: found again or appended
abbrev pub add_gate : MachineData → FitKind → List ℕ → Added
add_gate m kind inputs = or_push m (push_gate m kind inputs) (find_gate m kind inputs)

abbrev pub add_delay : MachineData → ℕ → Added
add_delay m net = or_push m (push_delay m net) (find_delay m net)

-- the limit that an addition passes: none where it is found again; where it is appended that on nets, and then for a
-- delay register that on registers
abbrev pub unless_found : Option ℕ → Option Limit → Option Limit
unless_found None limit = limit
unless_found (Some net) limit = None

abbrev pub nets_limit : MachineData → Option Limit
nets_limit m = if nat_lt (length m.circuit.names) MOST_NETS then None else Some Nets

abbrev pub registers_limit : MachineData → Option Limit
registers_limit m = if nat_lt (length m.circuit.registers) MOST_REGISTERS then None else Some Registers

abbrev pub gate_limit : MachineData → FitKind → List ℕ → Option Limit
gate_limit m kind inputs = unless_found (find_gate m kind inputs) (nets_limit m)

abbrev pub delay_limit : MachineData → ℕ → Option Limit
delay_limit m net = unless_found (find_delay m net) (option_or (nets_limit m) (registers_limit m))

-- a register gets a net as its enable
abbrev pub set_enable : MachineData → ℕ → ℕ → MachineData
set_enable m r net = with_enables m (slice_set m.enables r (Some net))

-- registers get a net as their enable
abbrev pub give : List (Option ℕ) → List ℕ → ℕ → List (Option ℕ)
give enables [] net = enables
give enables (r ∷ regs) net = give (slice_set enables r (Some net)) regs net

-- what adding a gate or a delay register answers: the machine with it and its net, or the limit that is passed
abbrev pub or_limit : Option Limit → Added → Result Added AddFault
or_limit None added = Ok added
or_limit (Some limit) added = Err (LimitFault limit)

abbrev pub gate_answer : MachineData → FitKind → List ℕ → Result Added AddFault
gate_answer m kind inputs = or_limit (gate_limit m kind inputs) (add_gate m kind inputs)

abbrev pub delay_answer : MachineData → ℕ → Result Added AddFault
delay_answer m net = or_limit (delay_limit m net) (add_delay m net)

-- how many nets are the netlist's own; the netlist as it was before anything was added
abbrev pub own_nets : MachineData → ℕ
own_nets m = length m.circuit.names - additions m

abbrev pub own_netlist : MachineData → Circuit
own_netlist m =
    record m.circuit {
      names = take (own_nets m) m.circuit.names;
      cells = take m.own_cells m.circuit.cells;
      registers = take m.own_registers m.circuit.registers;
    }

-- the names of the nets are those of the netlist, and behind them those of the added nets
abbrev pub HasNames : MachineData → Type 0
HasNames m = m.circuit.names ≡ (own_netlist m).names ++ map (added_name m) (range_with_len 0 (additions m))

-- the place of an added net in the order of addition
abbrev pub added_place : MachineData → ℕ → Option ℕ
added_place m net = if nat_lt net (own_nets m) then None else Some (net - own_nets m)
