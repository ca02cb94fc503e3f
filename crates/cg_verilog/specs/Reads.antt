-- What a reader of a text answers.
use Rattle.std.specs.Prelude.{◌≡◌, ℕ, IsTrue, true, false, List, Option, None, Some, Result, Ok, Err}
use Rattle.std.specs.List.{AllByRecursion}
use Rattle.std.specs.Option.{option_to_list}
use Rattle.cg_cell.specs.Cell.{CellData}
use Rattle.cg_cell.specs.Name.{is_name}
use Rattle.cg_net.specs.Names.{NetName}
use Rattle.cg_netlist.specs.Circuit.{Circuit}
use Rattle.cg_netlist_builder.specs.Building.{Building, Finishes}
use Rattle.cg_netlist_parts.specs.Faults.{IsFault}
use Rattle.cg_netlist_parts.specs.Part.{Part}
use Rattle.cg_netlist_parts.specs.Said.{said}
use Rattle.cg_netlist_parts.specs.declared.fault.NetFault.{NetFault}
use Rattle.cg_netlist_parts.specs.declared.fault.NetFault.TheVariants as nets
use Rattle.cg_verilog_text.specs.Items.{line_of}
use Rattle.cg_verilog_text.specs.Tokens.{Token}
use Rattle.cg_verilog_text.specs.VerilogText.{IsFirstVerilogFault, VerilogText}
use Rattle.cg_verilog_text.specs.declared.fault.VerilogFault.{VerilogFault}
use Rattle.cg_verilog_text.specs.declared.fault.VerilogFault.TheVariants.{Net, NoMemory}
use Rattle.cg_verilog.specs.Ending.{summary_of}
use Rattle.cg_verilog.specs.Summary.{Ending, Summary}
use Rattle.cg_verilog.specs.Tellings.{IsSound, summed}
use Rattle.cg_verilog.specs.declared.telling.Telling.{Telling}

-- all items were told up to `endmodule`, or up to the token of a line that no item allows; or memory is wanting
pub record StopsAtItem (told : Ending) (summary : Summary) (end line : ℕ) : Type 0 where
  pub left : List Token
  pub is : told ≡ record { summary = summary; whole = false; left = left }
  pub line_is : line ≡ line_of end left

abbrev pub ItemsTold : Ending → Telling → List Token → ℕ → Result (Option ℕ) VerilogFault → Type 0
ItemsTold told new left end (Ok None) = IsSound new × (told ≡ record { summary = summed new; whole = true; left = left })
ItemsTold told new left end (Ok (Some line)) = IsSound new × StopsAtItem told (summed new) end line
ItemsTold told new left end (Err fault) = fault ≡ NoMemory

-- the line of the bad token, where one was met, or where all items were told
abbrev pub bad_or : Option ℕ → Option ℕ → Option ℕ
bad_or (Some line) bad = Some line
bad_or None bad = bad

-- the fault is the one that was made, or memory is wanting
abbrev pub IsFaultOf : {A : Type 0} → Result A VerilogFault → VerilogFault → Type 0
IsFaultOf made NoMemory = Unit {0}
IsFaultOf made fault = made ≡ Err fault

-- a text was told
abbrev pub IsTold : List CellData → List ℕ → Result Telling VerilogFault → Type 0
IsTold library text (Ok t) = IsSound t × (summary_of library text ≡ Ok (summed t))
IsTold library text (Err fault) = IsFaultOf (summary_of library text) fault

-- a builder that refused nothing is what was made, or this is the fault of that, or memory is wanting
abbrev pub IsBuilt : Result Building VerilogFault → Result Building VerilogFault → Type 0
IsBuilt made (Ok b) = (b.refused ≡ None) × (made ≡ Ok b)
IsBuilt made (Err fault) = IsFaultOf made fault

-- how a text is answered whose builder finishes so
abbrev pub unfinished : NetFault → VerilogFault
unfinished (nets.TwoDrivers net) = Net (nets.TwoDrivers net)
unfinished (nets.NoDriver net) = Net (nets.NoDriver net)
unfinished (nets.Cycle net) = Net (nets.Cycle net)
unfinished (nets.ClockFault net) = Net (nets.ClockFault net)
unfinished nets.NoClock = Net nets.NoClock
unfinished nets.NoMemory = NoMemory

abbrev pub FinishesAs : Building → Result Circuit VerilogFault → Type 0
FinishesAs b (Ok c) = Finishes b (Ok c)
FinishesAs b (Err NoMemory) = Unit {0}
FinishesAs b (Err (Net fault)) = (parts : List Part) → said parts ≡ b.said → IsFault parts fault
FinishesAs b (Err fault) = ⊥

-- the fault is the first of the text, or memory is wanting
abbrev pub IsFirstOrNoMemory : List ℕ → List CellData → Option NetName → VerilogFault → Type 0
IsFirstOrNoMemory text library clock NoMemory = Unit {0}
IsFirstOrNoMemory text library clock fault = IsFirstVerilogFault text library clock fault

-- the clock of the option has a name, if there is one
abbrev pub IsNamedClock : Option NetName → Type 0
IsNamedClock clock = AllByRecursion (λ net. IsTrue (is_name net)) (option_to_list clock)

-- a netlist was read, which the text says; or there is a fault
abbrev pub IsReadFrom : List ℕ → List CellData → Option NetName → Result Circuit VerilogFault → Type 0
IsReadFrom text library clock (Ok c) = VerilogText text library clock c × IsNamedClock clock
IsReadFrom text library clock (Err fault) = IsFirstOrNoMemory text library clock fault
