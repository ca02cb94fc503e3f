-- What is true of Verilog texts and of V-equal netlists.
use Rattle.std.specs.Prelude.{◌≡◌, ◌↔◌, ◌+◌, ◌<◌, ◌^◌, ℕ, Bool, true, false, List, length, map, Option, Result}
use Rattle.std.specs.List.{AllByRecursion, filter_map}
use Rattle.std.specs.Str.{bytes_eq}
use Rattle.cg_cell.specs.Cell.{CellData}
use Rattle.cg_cell.specs.Cover.{cover_value}
use Rattle.cg_cell.specs.Name.{are_distinct}
use Rattle.cg_net.specs.Names.{NetName, is_known}
use Rattle.cg_netlist.specs.Circuit.{Circuit}
use Rattle.cg_netlist.specs.History.{IsLawful, Moment, Tick, edges, outputs_of}
use Rattle.cg_netlist.specs.Wiring.{named}
use Rattle.cg_netlist_parts.specs.Writable.{IsPlaceable}
use Rattle.cg_verilog_text.specs.FormValues.{value_of}
use Rattle.cg_verilog_text.specs.Forms.{Form, form, nets_of}
use Rattle.cg_verilog_text.specs.Items.{Item}
use Rattle.cg_verilog_text.specs.Kept.{kept_netlist}
use Rattle.cg_verilog_text.specs.Meaning.{cover_on, once}
use Rattle.cg_verilog_text.specs.ReadAs.{AreProper, ReadAs}
use Rattle.cg_verilog_text.specs.Reading.{Got}
use Rattle.cg_verilog_text.specs.Tokens.{Token}
use Rattle.cg_verilog_text.specs.VEqual.{AreVEqual}
use Rattle.cg_verilog_text.specs.VerilogText.{IsReadAs, VerilogText}
use Rattle.cg_verilog_text.specs.declared.fault.VerilogFault.{VerilogFault}
use Rattle.cg_verilog_text.specs.Written.{verilog}
use Rattle.cg_verilog_text.specs.WrittenItems.{label_of, most_placed, written_items}

-- V-equal netlists have the same lawful histories, with the same outputs and the same edges
pub record AgreeOn (c d : Circuit) (start : List Bool) (wave : List Tick) (history : List Moment) : Type 0 where
  pub lawful : IsLawful c start wave history ↔ IsLawful d start wave history
  pub outputs : outputs_of c history ≡ outputs_of d history
  pub edges : edges c history ≡ edges d history

abbrev pub SameHistories : Type 0
SameHistories = (c d : Circuit) → AreVEqual c d → (start : List Bool) (wave : List Tick) (history : List Moment) →
    AgreeOn c d start wave history

-- A text is read back as a netlist: read with its library, and with its clock as the option where it has one, it says what
-- Verilog keeps of the netlist, and that is V-equal to it.
pub record ReadsBack (library : List CellData) (c : Circuit) (text : List ℕ) : Type 0 where
  pub says : VerilogText text library (named c).clock (kept_netlist c)
  pub v_equal : AreVEqual c (kept_netlist c)

-- the text of a netlist that is placed with the cells of a library is read back as that netlist
abbrev pub TextReadsBack : Type 0
TextReadsBack = (library : List CellData) (c : Circuit) → IsPlaceable library c → ReadsBack library c (verilog c)

-- no text says two netlists
abbrev pub NoTextSaysTwo : Type 0
NoTextSaysTwo = (text : List ℕ) (library : List CellData) (clock : Option NetName) (c d : Circuit) →
    VerilogText text library clock c → VerilogText text library clock d → c ≡ d

-- a text says placeable netlists alone, where the cells of the library are cells and the clock of the option has a name
abbrev pub TextsSayPlaceable : Type 0
TextsSayPlaceable = (text : List ℕ) (library : List CellData) (clock : Option NetName) (c : Circuit) → AreProper library clock →
    VerilogText text library clock c → IsPlaceable library c

-- each text is read as one thing, and no text as two
pub record EachReadOnce (library : List CellData) (clock : Option NetName) (text : List ℕ) : Type 0 where
  pub read : ReadAs library clock text
  pub once : (r s : Result Circuit VerilogFault) → IsReadAs library clock text r → IsReadAs library clock text s → r ≡ s

abbrev pub TextsAreReadOnce : Type 0
TextsAreReadOnce = (library : List CellData) (clock : Option NetName) (text : List ℕ) → EachReadOnce library clock text

-- a form that is read says a cover with the value of the form, whatever bits its nets have
abbrev pub IsMeant : Form NetName → Type 0
IsMeant read =
    (bit : NetName → Bool) → cover_value (cover_on bytes_eq (once bytes_eq (nets_of read)) read) (map bit (once bytes_eq (nets_of read))) ≡ value_of bit read

abbrev pub FormsAreMeant : Type 0
FormsAreMeant = (tokens later : List Token) (read : Form NetName) → form tokens ≡ Got read later → IsMeant read

-- each placed cell that is written has a label of its own, which is no net's name
pub record OwnLabels (names : List NetName) (items : List Item) : Type 0 where
  pub distinct : are_distinct (filter_map label_of items) ≡ true
  pub fresh : AllByRecursion (λ label. is_known names label ≡ false) (filter_map label_of items)

abbrev pub LabelsAreOwn : Type 0
LabelsAreOwn = (c : Circuit) → length c.names + most_placed (named c) < 2 ^ 64 → OwnLabels c.names (written_items c.names (named c))
