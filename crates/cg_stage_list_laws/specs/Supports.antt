-- What the input nets of a register stand on: the nets of their cone, and the data inputs and registers at its edge.
use Rattle.std.specs.Prelude.{ℕ, Bool, false, not, ◌&&◌, ◌||◌, List, length, slice_get, nat_eq, is_none, is_some}
use Rattle.std.specs.List.{filter, list_any, range_with_len}
use Rattle.std.specs.Option.{option_map_or}
use Rattle.cg_netlist.specs.Circuit.{data_inputs}
use Rattle.cg_net.specs.NetSets.{is_in}
use Rattle.cg_machine.specs.Machine.{MachineData, enable_of, walk_of}
use Rattle.cg_netlist_cone.specs.Cone.{cone_of}
use Rattle.cg_claim.specs.Reach.{feeds, inputs_of_register, reads_own, registers_of}

-- the nets of the cone of its inputs, these and the edge included
abbrev pub input_cone : MachineData → ℕ → List ℕ
input_cone m r = cone_of (walk_of m) (inputs_of_register m r)

-- whether the function of a register names its own bit
abbrev pub reads_own_at : MachineData → ℕ → Bool
reads_own_at m r = option_map_or reads_own (slice_get m.circuit.registers r) false

-- whether register k is in the support of register r: at the edge of the cone, or r itself where its function names its bit
abbrev pub supports : MachineData → ℕ → ℕ → Bool
supports m r k = feeds m (input_cone m r) k || (nat_eq k r && reads_own_at m r)

-- whether a data input is in the support of register r
abbrev pub has_input : MachineData → ℕ → Bool
has_input m r = list_any (is_in (input_cone m r)) (data_inputs m.circuit)

-- the registers of the support of r other than r
abbrev pub others_of : MachineData → ℕ → List ℕ
others_of m r = filter (λ k. supports m r k && not (nat_eq k r)) (registers_of m)

-- the registers of the netlist, which are no delay registers, and those of them without an enable
abbrev pub own_registers_of : MachineData → List ℕ
own_registers_of m = range_with_len 0 m.own_registers

abbrev pub free_registers : MachineData → List ℕ
free_registers m = filter (λ r. is_none (enable_of m r)) (own_registers_of m)

-- whether a register has an enable
abbrev pub has_enable : MachineData → ℕ → Bool
has_enable m r = is_some (enable_of m r)

-- the nets of a list in net order, each once
abbrev pub all_nets : MachineData → List ℕ
all_nets m = range_with_len 0 (length m.circuit.names)

abbrev pub in_net_order : MachineData → List ℕ → List ℕ
in_net_order m nets = filter (is_in nets) (all_nets m)
