-- The items that are written of a netlist.
use Rattle.std.specs.Prelude.{ℕ, ◌+◌, ◌==◌, Bool, true, false, not, if◌then◌else◌, nat_lt, List, [], ◌∷◌, ◌++◌, map, length, drop}
use Rattle.std.specs.Prelude.{slice_index_or, Option, None, Some}
use Rattle.std.specs.List.{filter, flat_map, range_with_len}
use Rattle.std.specs.Option.{option_to_list}
use Rattle.std.specs.Fmt.{decimal}
use Rattle.std.specs.Str.{bytes_eq}
use Rattle.cg_net.specs.Names.{NetName, is_known}
use Rattle.cg_netlist.specs.Circuit.{GatingCell, LogicCell, RegisterCell}
use Rattle.cg_netlist.specs.Wiring.{Wiring}
use Rattle.cg_netlist.specs.declared.parts.LogicFunction.{LogicFunction}
use Rattle.cg_netlist.specs.declared.parts.LogicFunction.TheVariants.{Cover, Cell}
use Rattle.cg_netlist.specs.declared.parts.RegisterKind.{RegisterKind}
use Rattle.cg_netlist.specs.declared.parts.RegisterKind.TheVariants.{Plain, Flop}
use Rattle.cg_netlist_placed.specs.PinsOf.{flop_pins, gater_pins, logic_pins}
use Rattle.cg_verilog_text.specs.CoverForms.{form_of}
use Rattle.cg_verilog_text.specs.Items.{Item, Input, Output, Reg, Place, Assign, Always, Initial}

-- a logic cell: an assignment, or a placed cell, whose label comes later
abbrev pub function_item : LogicCell NetName → LogicFunction → Item
function_item cell (Cover cover) = Assign cell.output (form_of bytes_eq cell.inputs cover)
function_item cell (Cell placed) = Place placed.name [] (logic_pins placed cell)

abbrev pub cell_item : LogicCell NetName → Item
cell_item cell = function_item cell cell.function

-- a gating cell
abbrev pub gater_item : GatingCell NetName → Item
gater_item gater = Place gater.cell.name [] (gater_pins gater)

-- a plain register has one input and one output
abbrev pub first : List NetName → NetName
first nets = slice_index_or nets 0 []

abbrev pub shown : RegisterCell NetName NetName → NetName
shown r = first (map (λ output. output.0) r.outputs)

-- a register: a plain one, and behind it its init where that is 0 or 1; or a placed cell
abbrev pub init_items : NetName → ℕ → List Item
init_items net init = if nat_lt init 2 then Initial net (init == 1) ∷ [] else []

abbrev pub rising : NetName → NetName → NetName → Item
rising clock net takes = Always clock (record { net = net; takes = takes } ∷ [])

abbrev pub kind_items : RegisterCell NetName NetName → RegisterKind → List Item
kind_items r Plain = rising r.clock (shown r) (first r.inputs) ∷ init_items (shown r) r.init
kind_items r (Flop placed) = Place placed.name [] (flop_pins placed r) ∷ []

abbrev pub register_items : RegisterCell NetName NetName → List Item
register_items r = kind_items r r.kind

-- a plain register is declared, without an init
abbrev pub declared_alone : NetName → Item
declared_alone net = Reg None (record { net = net; init = None } ∷ [])

abbrev pub kind_declared : RegisterCell NetName NetName → RegisterKind → List Item
kind_declared r Plain = declared_alone (shown r) ∷ []
kind_declared r (Flop placed) = []

abbrev pub declared_items : RegisterCell NetName NetName → List Item
declared_items r = kind_declared r r.kind

-- the inputs, and behind them the clock where it is none
abbrev pub inputs_with_clock : Wiring NetName → List NetName
inputs_with_clock w = w.inputs ++ filter (λ net. not (is_known w.inputs net)) (option_to_list w.clock)

-- all items: the inputs and the clock, the outputs, the plain registers, the logic cells, the gating cells, the registers
abbrev pub input_item : NetName → Item
input_item net = Input None (net ∷ [])

abbrev pub output_item : NetName → Item
output_item net = Output None (net ∷ [])

abbrev pub wiring_items : Wiring NetName → List Item
wiring_items w =
    map input_item (inputs_with_clock w) ++ map output_item w.outputs ++ flat_map declared_items w.registers
    ++ map cell_item w.cells ++ map gater_item w.gaters ++ flat_map register_items w.registers

-- placed cells are labelled `u` and a number, counted from 0, and a label that is the name of a net is passed over
abbrev pub label : ℕ → List ℕ
label k = 117 ∷ decimal k

abbrev pub labels : List NetName → ℕ → List (List ℕ)
labels names count = filter (λ text. not (is_known names text)) (map label (range_with_len 0 (length names + count)))

abbrev pub places : Item → Bool
places (Place cell label pins) = true
places item = false

abbrev pub label_of : Item → Option (List ℕ)
label_of (Place cell label pins) = Some label
label_of item = None

abbrev pub with_label : List ℕ → Item → Item
with_label text (Place cell label pins) = Place cell text pins
with_label text item = item

abbrev pub labelled : List (List ℕ) → List Item → List Item
labelled texts [] = []
labelled texts (item ∷ items) =
    with_label (slice_index_or texts 0 []) item ∷ labelled (if places item then drop 1 texts else texts) items

-- the items of a netlist whose nets have these names; no more cells are placed than there are cells and registers
abbrev pub most_placed : Wiring NetName → ℕ
most_placed w = length w.cells + (length w.gaters + length w.registers)

abbrev pub written_items : List NetName → Wiring NetName → List Item
written_items names w = labelled (labels names (most_placed w)) (wiring_items w)
