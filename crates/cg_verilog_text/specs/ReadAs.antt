-- What a text is read as: the netlist that it says, or why it says none.
use Rattle.std.specs.Prelude.{◌≡◌, ℕ, List, Option, Result, Ok, IsTrue}
use Rattle.std.specs.List.{AllByRecursion}
use Rattle.std.specs.Option.{option_to_list}
use Rattle.cg_cell.specs.Cell.{CellData, IsCell}
use Rattle.cg_cell.specs.Name.{is_name}
use Rattle.cg_net.specs.Names.{NetName}
use Rattle.cg_netlist.specs.Circuit.{Circuit}
use Rattle.cg_verilog_text.specs.VerilogText.{IsReadAs, VerilogText}
use Rattle.cg_verilog_text.specs.declared.fault.VerilogFault.{VerilogFault}

-- the cells of the library are cells, and the clock of the option has a name
pub record AreProper (library : List CellData) (clock : Option NetName) : Type 0 where
  pub cells : AllByRecursion IsCell library
  pub named : AllByRecursion (λ net. IsTrue (is_name net)) (option_to_list clock)

-- What a text is read as with a proper library and clock, and that it is: each text is read as one thing, and no text as two.
-- A netlist is answered with a proper library and clock alone.
pub record ReadAs (library : List CellData) (clock : Option NetName) (text : List ℕ) : Type 0 where
  pub result : Result Circuit VerilogFault
  pub says : (c : Circuit) → result ≡ Ok c → VerilogText text library clock c
  pub proper : (c : Circuit) → result ≡ Ok c → AreProper library clock
  pub is : AreProper library clock → IsReadAs library clock text result
