-- What is true of BLIF texts and of the netlists that they say.
use Rattle.std.specs.Prelude.{◌≡◌, ◌↔◌, ℕ, IsTrue, List, Option, None, Err}
use Rattle.std.specs.List.{AllByRecursion}
use Rattle.std.specs.Option.{option_to_list}
use Rattle.cg_cell.specs.Cell.{CellData, IsCell}
use Rattle.cg_cell.specs.Name.{is_name}
use Rattle.cg_text.specs.declared.lines.Line.{Line}
use Rattle.cg_netlist.specs.Circuit.{Circuit}
use Rattle.cg_net.specs.Names.{NetName}
use Rattle.cg_netlist_parts.specs.Writable.{IsWritable}
use Rattle.cg_blif_text.specs.BlifText.{BlifText}
use Rattle.cg_blif_text.specs.Canonical.{blif}
use Rattle.cg_blif_text.specs.LineFaults.{IsFirstOfLines}
use Rattle.cg_blif_text.specs.Telling.{tell_lines}
use Rattle.cg_blif_text.specs.declared.fault.BlifFault.{BlifFault}

-- no text says two netlists
abbrev pub NoTextSaysTwo : Type 0
NoTextSaysTwo = (text : List ℕ) (library : List CellData) (clock : Option NetName) (c d : Circuit) →
    BlifText text library clock c → BlifText text library clock d → c ≡ d

-- the canonical text of a writable netlist says that netlist, with its library and without a clock of the option
abbrev pub CanonicalTextSays : Type 0
CanonicalTextSays = (library : List CellData) (c : Circuit) → IsWritable library c → BlifText (blif c) library None c

-- a text says writable netlists alone, where the cells of the library are cells and the clock of the option has a name
abbrev pub TextsSayWritable : Type 0
TextsSayWritable =
    (text : List ℕ) (library : List CellData) (clock : Option NetName) (c : Circuit) → AllByRecursion IsCell library →
    AllByRecursion (λ net. IsTrue (is_name net)) (option_to_list clock)
    → BlifText text library clock c → IsWritable library c

-- what lines tell is a fault exactly where it is the first by the table, of the first line that has one
abbrev pub FaultsAreFirst : Type 0
FaultsAreFirst = (library : List CellData) (lines : List Line) (fault : BlifFault) →
    (tell_lines library lines ≡ Err fault) ↔ IsFirstOfLines library lines fault
