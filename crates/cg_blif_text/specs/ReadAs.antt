-- What a text is read as: the netlist that it says, or why it says none.
use Rattle.std.specs.Prelude.{◌≡◌, ℕ, List, Option, Result, Ok, Err, IsTrue}
use Rattle.std.specs.List.{AllByRecursion}
use Rattle.std.specs.Option.{option_to_list}
use Rattle.cg_cell.specs.Cell.{CellData, IsCell}
use Rattle.cg_cell.specs.Name.{is_name}
use Rattle.cg_netlist.specs.Circuit.{Circuit}
use Rattle.cg_net.specs.Names.{NetName}
use Rattle.cg_blif_text.specs.declared.fault.BlifFault.{BlifFault}
use Rattle.cg_blif_text.specs.BlifText.{BlifText, IsFirstBlifFault}

-- the text is read as this: a netlist that it says, or its first fault
abbrev pub IsReadAs : List CellData → Option NetName → List ℕ → Result Circuit BlifFault → Type 0
IsReadAs library clock text (Ok c) = BlifText text library clock c
IsReadAs library clock text (Err fault) = IsFirstBlifFault text library clock fault

-- the cells of the library are cells, and the clock of the option has a name
pub record AreProper (library : List CellData) (clock : Option NetName) : Type 0 where
  pub cells : AllByRecursion IsCell library
  pub named : AllByRecursion (λ net. IsTrue (is_name net)) (option_to_list clock)

-- What a text is read as with a proper library and clock, and that it is: each text is read as one thing, and no text as two.
-- A netlist is answered with a proper library and clock alone.
pub record ReadAs (library : List CellData) (clock : Option NetName) (text : List ℕ) : Type 0 where
  pub result : Result Circuit BlifFault
  pub says : (c : Circuit) → result ≡ Ok c → BlifText text library clock c
  pub proper : (c : Circuit) → result ≡ Ok c → AreProper library clock
  pub is : AreProper library clock → IsReadAs library clock text result
