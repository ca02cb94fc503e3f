-- Lines of items that are written, with the labels that their placed cells take.
use Rattle.std.specs.Prelude.{◌≡◌, ℕ, if◌then◌else◌, List, [], ◌∷◌, ◌++◌, drop, map}
use Rattle.std.specs.List.{flat_map}
use Rattle.cg_net.specs.Names.{NetName, net_name}
use Rattle.cg_netlist.specs.Circuit.{Circuit, GatingCell, LogicCell, RegisterCell}
use Rattle.cg_netlist.specs.Wiring.{map_cell, map_gater, map_register, named}
use Rattle.cg_verilog_text.specs.Items.{Item}
use Rattle.cg_verilog_text.specs.Kept.{inputs_and_clock}
use Rattle.cg_verilog_text.specs.Written.{item_line, module_line}
use Rattle.cg_verilog_text.specs.WrittenItems.{cell_item, declared_items, gater_item, input_item, labelled, labels, most_placed}
use Rattle.cg_verilog_text.specs.WrittenItems.{output_item, places, register_items}

-- the labels that are left behind items
abbrev pub labels_behind : List (List ℕ) → List Item → List (List ℕ)
labels_behind texts [] = texts
labels_behind texts (item ∷ items) = labels_behind (if places item then drop 1 texts else texts) items

-- the lines of items are written behind a text, and their labels are taken
pub record Writes (items : List Item) (out new : List ℕ) (labels left : List (List ℕ)) : Type 0 where
  pub text : new ≡ out ++ flat_map item_line (labelled labels items)
  pub taken : left ≡ labels_behind labels items

-- the items of a part of a netlist whose nets have these names
abbrev pub cell_items : List NetName → LogicCell ℕ → List Item
cell_items names cell = cell_item (map_cell (net_name names) cell) ∷ []

abbrev pub gater_items : List NetName → GatingCell ℕ → List Item
gater_items names gater = gater_item (map_gater (net_name names) gater) ∷ []

abbrev pub flop_items : List NetName → RegisterCell ℕ ℕ → List Item
flop_items names register = register_items (map_register (net_name names) register)

abbrev pub declarations : List NetName → RegisterCell ℕ ℕ → List Item
declarations names register = declared_items (map_register (net_name names) register)

-- lines of inputs and outputs, and those that declare plain registers
abbrev pub input_line : List NetName → ℕ → List ℕ
input_line names net = item_line (input_item (net_name names net))

abbrev pub output_line : List NetName → ℕ → List ℕ
output_line names net = item_line (output_item (net_name names net))

abbrev pub declaration_lines : List NetName → RegisterCell ℕ ℕ → List ℕ
declaration_lines names register = flat_map item_line (declarations names register)

-- the line of the module, whose ports are these inputs and the outputs
abbrev pub port_line : Circuit → List ℕ → List ℕ
port_line c inputs = module_line c.model (map (net_name c.names) (inputs ++ c.outputs))

-- all lines before the cells, where the inputs are these
abbrev pub lines_of_inputs : Circuit → List ℕ → List ℕ
lines_of_inputs c inputs =
    port_line c inputs ++ (flat_map (input_line c.names) inputs ++ (flat_map (output_line c.names) c.outputs
    ++ flat_map (declaration_lines c.names) c.registers))

abbrev pub head_text : Circuit → List ℕ
head_text c = lines_of_inputs c (inputs_and_clock c.inputs c.clock)

-- the items of all cells and registers, and their lines
abbrev pub parts_items : Circuit → List Item
parts_items c =
    flat_map (cell_items c.names) c.cells ++ (flat_map (gater_items c.names) c.gaters ++ flat_map (flop_items c.names) c.registers)

abbrev pub parts_text : Circuit → List ℕ
parts_text c = flat_map item_line (labelled (labels c.names (most_placed (named c))) (parts_items c))
