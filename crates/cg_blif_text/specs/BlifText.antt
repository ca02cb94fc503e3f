-- Which netlist a text says with the cells of a library, or which fault it has first.
use Rattle.std.specs.Prelude.{◌≡◌, ◌⊎◌, ℕ, List, Option, Result, Ok, Err}
use Rattle.cg_cell.specs.Cell.{CellData}
use Rattle.cg_netlist.specs.Circuit.{Circuit}
use Rattle.cg_netlist_parts.specs.declared.fault.NetFault.{NetFault}
use Rattle.cg_netlist_parts.specs.Faults.{IsFault}
use Rattle.cg_netlist_parts.specs.Part.{Part}
use Rattle.cg_netlist_parts.specs.Said.{said}
use Rattle.cg_netlist_parts.specs.Says.{Says}
use Rattle.cg_net.specs.Names.{NetName}
use Rattle.cg_blif_text.specs.declared.fault.BlifFault.{BlifFault}
use Rattle.cg_blif_text.specs.declared.fault.BlifFault.TheVariants.{Net}
use Rattle.cg_blif_text.specs.LineFaults.{IsFirstOfLines}
use Rattle.cg_blif_text.specs.LogicalLines.{text_lines}
use Rattle.cg_blif_text.specs.Telling.{LinesSaid, go_on, tell_clock, tell_lines}

-- what a text tells with the cells of a library, and with the clock of the option where one is given
abbrev pub told_by : List CellData → Option NetName → List ℕ → Result LinesSaid BlifFault
told_by library clock text = go_on (tell_lines library (text_lines text)) (tell_clock clock)

-- parts that a text tells
pub record TellsParts (library : List CellData) (clock : Option NetName) (text : List ℕ) (model : List ℕ)
    (parts : List Part) : Type 0 where
  pub told : LinesSaid
  pub faultless : told_by library clock text ≡ Ok told
  pub model_is : told.model ≡ model
  pub said_is : told.said ≡ said parts

-- the text says the netlist: no line has a fault, and the parts that they tell say it
pub record BlifText (text : List ℕ) (library : List CellData) (clock : Option NetName) (c : Circuit) : Type 0 where
  pub parts : List Part
  pub tells : TellsParts library clock text c.model parts
  pub says : Says c.model parts c

-- no line has a fault, and the parts that they tell have this fault first
pub record HasNetFault (text : List ℕ) (library : List CellData) (clock : Option NetName) (fault : NetFault) : Type 0 where
  pub model : List ℕ
  pub parts : List Part
  pub tells : TellsParts library clock text model parts
  pub first : IsFault parts fault

-- no line has a fault, and the clock of the option is a net more than there may be
pub record HasClockFault (text : List ℕ) (library : List CellData) (clock : Option NetName) (fault : BlifFault) : Type 0 where
  pub told : LinesSaid
  pub before : tell_lines library (text_lines text) ≡ Ok told
  pub fails : tell_clock clock told ≡ Err fault

-- the first fault of the first line that has one, or else that of the clock of the option
abbrev pub HasLineFault : List ℕ → List CellData → Option NetName → BlifFault → Type 0
HasLineFault text library clock fault = IsFirstOfLines library (text_lines text) fault ⊎ HasClockFault text library clock fault

-- the first fault of the text: that of its lines and of the clock, or else that of its parts
abbrev pub IsFirstBlifFault : List ℕ → List CellData → Option NetName → BlifFault → Type 0
IsFirstBlifFault text library clock fault =
    HasLineFault text library clock fault ⊎ ((net : NetFault) × (fault ≡ Net net) × HasNetFault text library clock net)
