-- The parts of the gated netlist, in the order in which a builder is told them.
use Rattle.std.specs.Prelude.{ℕ, List, ◌++◌, map, take, Option}
use Rattle.std.specs.Option.{option_to_list}
use Rattle.cg_cell.specs.Cell.{CellData}
use Rattle.cg_machine.specs.Machine.{MachineData}
use Rattle.cg_netlist.specs.Circuit.{GatingCell, RegisterCell}
use Rattle.cg_netlist.specs.Moment.{zip_with}
use Rattle.cg_netlist_parts.specs.Part.{Part}
use Rattle.cg_net.specs.Names.{NetName}
use Rattle.cg_netlist_telling.specs.NamedParts.{cell_parts, clock_parts, clocked_parts, gater_parts, input_parts, output_parts}
use Rattle.cg_insert.specs.Insert.{enables_of, gate_names, new_gater_outputs, gating_cell, placed_gate, reclocked, test_net}

-- the names of the gated netlist, in the machine's own order
abbrev pub gated_names : Option (List ℕ) → MachineData → List NetName
gated_names test m = m.circuit.names ++ option_to_list test ++ gate_names m

-- the gating cells, and the registers on their clocks
abbrev pub gated_gaters : List CellData → Option (List ℕ) → MachineData → List (GatingCell ℕ)
gated_gaters library test m = zip_with (gating_cell library test m) (enables_of m) (new_gater_outputs test m)

abbrev pub gated_registers : Option (List ℕ) → MachineData → List (RegisterCell ℕ ℕ)
gated_registers test m = zip_with (reclocked test m) m.circuit.registers m.enables

-- all of them
abbrev pub gated_parts : List NetName → List CellData → Option (List ℕ) → MachineData → List Part
gated_parts names library test m =
    input_parts names m.circuit.inputs ++ input_parts names (option_to_list (test_net m test))
    ++ output_parts names m.circuit.outputs ++ clock_parts names m.circuit.clock
    ++ cell_parts names (take m.own_cells m.circuit.cells) ++ cell_parts names (map (placed_gate library) m.gates)
    ++ gater_parts names (gated_gaters library test m) ++ clocked_parts names (gated_registers test m)
