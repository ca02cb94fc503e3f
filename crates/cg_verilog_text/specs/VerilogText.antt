-- Which netlist a text says with the cells of a library, or which fault it has first.
use Rattle.std.specs.Prelude.{◌≡◌, ◌⊎◌, ℕ, List, [], ◌∷◌, Option, None, Some, Result, Ok, Err}
use Rattle.cg_cell.specs.Cell.{CellData}
use Rattle.cg_limit.specs.declared.Limit.{Limit}
use Rattle.cg_limit.specs.declared.Limit.TheVariants.{Nets}
use Rattle.cg_net.specs.Names.{NetName}
use Rattle.cg_netlist.specs.Circuit.{Circuit}
use Rattle.cg_netlist_parts.specs.declared.fault.NetFault.{NetFault}
use Rattle.cg_netlist_parts.specs.Faults.{IsFault}
use Rattle.cg_netlist_parts.specs.Part.{Part, Clock}
use Rattle.cg_netlist_parts.specs.Said.{Said, said}
use Rattle.cg_netlist_parts.specs.Says.{Says}
use Rattle.cg_netlist_placed.specs.declared.fault.PlacedFault.TheVariants.{UnknownCell, UnusableCell, PinFault}
use Rattle.cg_verilog_text.specs.Telling.{Fault, faults_of, first_of, tell_items, with_parts}
use Rattle.cg_verilog_text.specs.TextItems.{Text, text_of}
use Rattle.cg_verilog_text.specs.declared.fault.ItemFault.{ItemFault}
use Rattle.cg_verilog_text.specs.declared.fault.ItemFault.TheVariants.{BadText, Placed, Limit as Passed}
use Rattle.cg_verilog_text.specs.declared.fault.VerilogFault.{VerilogFault}
use Rattle.cg_verilog_text.specs.declared.fault.VerilogFault.TheVariants as faults

-- a fault at a line, as the answer has it
abbrev pub at : ℕ → ItemFault → VerilogFault
at line BadText = faults.BadText line
at line (Placed UnknownCell) = faults.UnknownCell line
at line (Placed UnusableCell) = faults.UnusableCell line
at line (Placed PinFault) = faults.PinFault line
at line (Passed limit) = faults.Limit limit

-- the clock of the option is declared behind all items
abbrev pub clock_said : Result Said Limit → Result Said VerilogFault
clock_said (Ok s) = Ok s
clock_said (Err limit) = Err (faults.Limit limit)

abbrev pub with_clock : Option NetName → Option Said → Result Said VerilogFault
with_clock clock None = Err (faults.Limit Nets)
with_clock None (Some s) = Ok s
with_clock (Some net) (Some s) = clock_said (with_parts (Clock net ∷ []) s)

abbrev pub said_or : Option Fault → Result Said VerilogFault → Result Said VerilogFault
said_or None said = said
said_or (Some fault) said = Err (at fault.line fault.cause)

-- what a text says with the cells of a library, and with the clock of the option where one is given, or its first fault
abbrev pub told_of : List CellData → Option NetName → Text → Result Said VerilogFault
told_of library clock text = said_or (first_of (faults_of library text)) (with_clock clock (tell_items library text.items).said)

abbrev pub told_by : List CellData → Option NetName → List ℕ → Result Said VerilogFault
told_by library clock text = told_of library clock (text_of text)

-- parts that a text tells
pub record TellsParts (library : List CellData) (clock : Option NetName) (text : List ℕ) (model : List ℕ)
    (parts : List Part) : Type 0 where
  pub told : told_by library clock text ≡ Ok (said parts)
  pub model_is : (text_of text).model ≡ model

-- the text says the netlist: it has no fault, and the parts that it tells say the netlist
pub record VerilogText (text : List ℕ) (library : List CellData) (clock : Option NetName) (c : Circuit) : Type 0 where
  pub parts : List Part
  pub tells : TellsParts library clock text c.model parts
  pub says : Says c.model parts c

-- it has no fault, and the parts that it tells have this fault first
pub record HasNetFault (text : List ℕ) (library : List CellData) (clock : Option NetName) (fault : NetFault) : Type 0 where
  pub model : List ℕ
  pub parts : List Part
  pub tells : TellsParts library clock text model parts
  pub first : IsFault parts fault

-- the first fault of a text: that of its lines and of the clock, or else that of its parts
abbrev pub IsFirstVerilogFault : List ℕ → List CellData → Option NetName → VerilogFault → Type 0
IsFirstVerilogFault text library clock fault =
    (told_by library clock text ≡ Err fault) ⊎ ((net : NetFault) × (fault ≡ faults.Net net) × HasNetFault text library clock net)

-- the text is read as this: a netlist that it says, or its first fault
abbrev pub IsReadAs : List CellData → Option NetName → List ℕ → Result Circuit VerilogFault → Type 0
IsReadAs library clock text (Ok c) = VerilogText text library clock c
IsReadAs library clock text (Err fault) = IsFirstVerilogFault text library clock fault
