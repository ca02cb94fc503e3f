-- The parts of the netlist without its gating cells, in the order in which a builder is told them.
use Rattle.std.specs.Prelude.{List, ◌++◌}
use Rattle.cg_netlist.specs.Circuit.{Circuit}
use Rattle.cg_netlist_parts.specs.Part.{Part}
use Rattle.cg_net.specs.Names.{NetName}
use Rattle.cg_netlist_telling.specs.NamedParts.{cell_parts, clock_parts, clocked_parts, input_parts, output_parts}
use Rattle.cg_extract.specs.Lifted.{ungated}

-- these names are given to the nets of the netlist as it was
abbrev pub bare_parts : List NetName → Circuit → List Part
bare_parts names c =
    input_parts names c.inputs ++ output_parts names c.outputs ++ clock_parts names c.clock ++ cell_parts names c.cells
    ++ clocked_parts names (ungated c).registers
