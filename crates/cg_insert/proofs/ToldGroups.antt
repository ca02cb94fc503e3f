-- The parts of a gated netlist in the groups in which they are told, and what a builder may be told when some of them were.
use Rattle.std.proofs.Common.{◌++◌, ℕ, List, map, take, Option}
use Rattle.std.specs.Option.{option_to_list}
use Rattle.cg_cell.specs.Cell.{CellData}
use Rattle.cg_machine.specs.Machine.{MachineData}
use Rattle.cg_netlist_builder.specs.Building.{Building}
use Rattle.cg_netlist_parts.specs.Part.{Part}
use Rattle.cg_net.specs.Names.{NetName}
use Rattle.cg_netlist_telling.proofs.ToldParts.{may_front}
use Rattle.cg_insert.specs.Insert.{placed_gate, test_net}
use Rattle.cg_insert.specs.inner.GatedParts.{gated_gaters, gated_parts, gated_registers}
use Rattle.cg_netlist_telling.specs.NamedParts.{cell_parts, clock_parts, clocked_parts}
use Rattle.cg_netlist_telling.specs.NamedParts.{gater_parts, input_parts, output_parts}
use Rattle.cg_netlist_telling.specs.Telling.{MayTell}

module _ (names : List NetName) (library : List CellData) (test : Option (List ℕ)) (m : MachineData) where
  abbrev pub the_inputs : List Part
  the_inputs = input_parts names m.circuit.inputs

  abbrev pub the_test : List Part
  the_test = input_parts names (option_to_list (test_net m test))

  abbrev pub the_outputs : List Part
  the_outputs = output_parts names m.circuit.outputs

  abbrev pub the_clock : List Part
  the_clock = clock_parts names m.circuit.clock

  abbrev pub the_cells : List Part
  the_cells = cell_parts names (take m.own_cells m.circuit.cells)

  abbrev pub the_gates : List Part
  the_gates = cell_parts names (map (placed_gate library) m.gates)

  abbrev pub the_gaters : List Part
  the_gaters = gater_parts names (gated_gaters library test m)

  abbrev pub the_registers : List Part
  the_registers = clocked_parts names (gated_registers test m)

  abbrev pub to_inputs : List Part
  to_inputs = the_inputs

  abbrev pub to_test : List Part
  to_test = to_inputs ++ the_test

  abbrev pub to_outputs : List Part
  to_outputs = to_test ++ the_outputs

  abbrev pub to_clock : List Part
  to_clock = to_outputs ++ the_clock

  abbrev pub to_cells : List Part
  to_cells = to_clock ++ the_cells

  abbrev pub to_gates : List Part
  to_gates = to_cells ++ the_gates

  abbrev pub to_gaters : List Part
  to_gaters = to_gates ++ the_gaters

  abbrev pub to_registers : List Part
  to_registers = to_gaters ++ the_registers

  module _ (b : Building) (may : MayTell b (gated_parts names library test m)) where
    pub may_registers : MayTell b to_registers
    may_registers = may

    pub may_gaters : MayTell b to_gaters
    may_gaters = may_front b to_gaters the_registers may_registers

    pub may_gates : MayTell b to_gates
    may_gates = may_front b to_gates the_gaters may_gaters

    pub may_cells : MayTell b to_cells
    may_cells = may_front b to_cells the_gates may_gates

    pub may_clock : MayTell b to_clock
    may_clock = may_front b to_clock the_cells may_cells

    pub may_outputs : MayTell b to_outputs
    may_outputs = may_front b to_outputs the_clock may_clock

    pub may_test : MayTell b to_test
    may_test = may_front b to_test the_outputs may_outputs

    pub may_inputs : MayTell b to_inputs
    may_inputs = may_front b to_inputs the_test may_test
