-- The parts of the netlist without its gating cells in the groups in which they are told, and what a builder may be told when
-- some of them were.
use Rattle.std.proofs.Common.{◌++◌, List}
use Rattle.cg_netlist.specs.Circuit.{Circuit}
use Rattle.cg_netlist_builder.specs.Building.{Building}
use Rattle.cg_netlist_parts.specs.Part.{Part}
use Rattle.cg_net.specs.Names.{NetName}
use Rattle.cg_netlist_telling.proofs.ToldParts.{may_front}
use Rattle.cg_netlist_telling.specs.NamedParts.{cell_parts, clock_parts, clocked_parts, input_parts, output_parts}
use Rattle.cg_netlist_telling.specs.Telling.{MayTell}
use Rattle.cg_extract.specs.Lifted.{ungated}
use Rattle.cg_extract.specs.inner.BareParts.{bare_parts}

module _ (names : List NetName) (c : Circuit) where
  abbrev pub to_inputs : List Part
  to_inputs = input_parts names c.inputs

  abbrev pub to_outputs : List Part
  to_outputs = to_inputs ++ output_parts names c.outputs

  abbrev pub to_clock : List Part
  to_clock = to_outputs ++ clock_parts names c.clock

  abbrev pub to_cells : List Part
  to_cells = to_clock ++ cell_parts names c.cells

  module _ (b : Building) (may : MayTell b (bare_parts names c)) where
    pub may_cells : MayTell b to_cells
    may_cells = may_front b to_cells (clocked_parts names (ungated c).registers) may

    pub may_clock : MayTell b to_clock
    may_clock = may_front b to_clock (cell_parts names c.cells) may_cells

    pub may_outputs : MayTell b to_outputs
    may_outputs = may_front b to_outputs (clock_parts names c.clock) may_clock

    pub may_inputs : MayTell b to_inputs
    may_inputs = may_front b to_inputs (output_parts names c.outputs) may_outputs
