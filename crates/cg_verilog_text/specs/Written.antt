-- The text that is written of a netlist.
use Rattle.std.specs.Prelude.{ℕ, Bool, true, false, if◌then◌else◌, List, [], ◌∷◌, ◌++◌, map, codes, Option, None, Some}
use Rattle.std.specs.List.{flat_map}
use Rattle.std.specs.Option.{option_to_list}
use Rattle.cg_net.specs.Names.{NetName}
use Rattle.cg_netlist.specs.Circuit.{Circuit}
use Rattle.cg_netlist.specs.Wiring.{Wiring, named}
use Rattle.cg_netlist_placed.specs.PinNets.{PinNet}
use Rattle.cg_verilog_text.specs.Forms.{Form, Constant, Sum, Differ, Choice, Literal}
use Rattle.cg_verilog_text.specs.Items.{Declared, Item, Input, Output, Wire, Reg, Place, Assign, Always, Initial, Range, Update}
use Rattle.cg_verilog_text.specs.WrittenItems.{inputs_with_clock, written_items}

-- texts with one between each two
abbrev pub between : List ℕ → List (List ℕ) → List ℕ
between separator [] = []
between separator (text ∷ []) = text
between separator (text ∷ next ∷ texts) = text ++ separator ++ between separator (next ∷ texts)

-- every name is escaped
abbrev pub name_text : List ℕ → List ℕ
name_text name = 92 ∷ (name ++ 32 ∷ [])

abbrev pub names_text : List (List ℕ) → List ℕ
names_text names = between (codes ", ") (map name_text names)

abbrev pub bit_text : Bool → List ℕ
bit_text true = codes "1'b1"
bit_text false = codes "1'b0"

-- forms: literals, terms in parentheses, sums of terms
abbrev pub literal_text : Literal NetName → List ℕ
literal_text literal = if literal.plain then name_text literal.net else 126 ∷ name_text literal.net

abbrev pub term_text : List (Literal NetName) → List ℕ
term_text term = codes "(" ++ between (codes "& ") (map literal_text term) ++ codes ")"

abbrev pub sum_text : List (List (Literal NetName)) → List ℕ
sum_text terms = between (codes " | ") (map term_text terms)

abbrev pub form_text : Form NetName → List ℕ
form_text (Constant value) = bit_text value
form_text (Sum true terms) = sum_text terms
form_text (Sum false terms) = codes "~(" ++ sum_text terms ++ codes ")"
form_text (Differ a b) = literal_text a ++ codes "^ " ++ literal_text b
form_text (Choice a b c) = literal_text a ++ codes "? " ++ literal_text b ++ codes ": " ++ literal_text c

-- what stands in items: a range, a declared register, a pin, an update
abbrev pub range_text : Option Range → List ℕ
range_text None = []
range_text (Some range) = codes "[" ++ range.high ++ codes ":" ++ range.low ++ codes "] "

abbrev pub declared_text : Declared → List ℕ
declared_text register = name_text register.net ++ flat_map (λ value. codes "= " ++ bit_text value) (option_to_list register.init)

abbrev pub pin_text : PinNet → List ℕ
pin_text pin = codes "." ++ name_text pin.pin ++ codes "(" ++ flat_map name_text (option_to_list pin.net) ++ codes ")"

abbrev pub update_text : Update → List ℕ
update_text update = name_text update.net ++ codes "<= " ++ name_text update.takes ++ codes ";"

abbrev pub updates_text : List Update → List ℕ
updates_text (update ∷ []) = update_text update
updates_text updates = codes "begin " ++ flat_map (λ update. update_text update ++ codes " ") updates ++ codes "end"

-- items
abbrev pub item_text : Item → List ℕ
item_text (Input range nets) = codes "input " ++ range_text range ++ names_text nets ++ codes ";"
item_text (Output range nets) = codes "output " ++ range_text range ++ names_text nets ++ codes ";"
item_text (Wire range nets) = codes "wire " ++ range_text range ++ names_text nets ++ codes ";"
item_text (Reg range nets) = codes "reg " ++ range_text range ++ between (codes ", ") (map declared_text nets) ++ codes ";"
item_text (Place cell label pins) =
    name_text cell ++ name_text label ++ codes "(" ++ between (codes ", ") (map pin_text pins) ++ codes ");"
item_text (Assign net form) = codes "assign " ++ name_text net ++ codes "= " ++ form_text form ++ codes ";"
item_text (Always clock updates) = codes "always @(posedge " ++ name_text clock ++ codes ") " ++ updates_text updates
item_text (Initial net value) = codes "initial " ++ name_text net ++ codes "= " ++ bit_text value ++ codes ";"

-- the text: a line for the module, one for each item behind two spaces, and `endmodule`
abbrev pub item_line : Item → List ℕ
item_line item = codes "  " ++ item_text item ++ 10 ∷ []

abbrev pub module_line : List ℕ → List NetName → List ℕ
module_line model ports = codes "module " ++ name_text model ++ codes "(" ++ names_text ports ++ codes ");" ++ 10 ∷ []

abbrev pub module_end : List ℕ
module_end = codes "endmodule" ++ 10 ∷ []

abbrev pub wiring_text : List ℕ → List NetName → Wiring NetName → List ℕ
wiring_text model names w =
    module_line model (inputs_with_clock w ++ w.outputs) ++ flat_map item_line (written_items names w) ++ module_end

abbrev pub verilog : Circuit → List ℕ
verilog c = wiring_text c.model c.names (named c)
