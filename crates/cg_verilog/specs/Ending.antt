-- How a text ends: the line of its bad token, if there is one, and what is then built.
use Rattle.std.specs.Prelude.{ℕ, ◌&&◌, if◌then◌else◌, List, [], ◌∷◌, Option, None, Some, Result, Ok, Err}
use Rattle.cg_cell.specs.Cell.{CellData}
use Rattle.cg_limit.specs.declared.Limit.{Limit}
use Rattle.cg_limit.specs.declared.Limit.TheVariants.{Nets}
use Rattle.cg_net.specs.Names.{NetName}
use Rattle.cg_netlist_builder.specs.Building.{Building}
use Rattle.cg_netlist_builder.specs.Inits.{with_inits}
use Rattle.cg_netlist_parts.specs.Part.{Clock}
use Rattle.cg_netlist_parts.specs.Said.{Said}
use Rattle.cg_text.specs.Lines.{end_line}
use Rattle.cg_verilog_text.specs.Items.{header, items, line_of}
use Rattle.cg_verilog_text.specs.Reading.{Got, Read, Stuck, behind}
use Rattle.cg_verilog_text.specs.Telling.{Fault, with_parts}
use Rattle.cg_verilog_text.specs.TextItems.{bad_behind}
use Rattle.cg_verilog_text.specs.Tokens.{tokens}
use Rattle.cg_verilog_text.specs.VerilogText.{at}
use Rattle.cg_verilog_text.specs.declared.fault.ItemFault.TheVariants.{BadText}
use Rattle.cg_verilog_text.specs.declared.fault.VerilogFault.{VerilogFault}
use Rattle.cg_verilog_text.specs.declared.fault.VerilogFault.TheVariants as faults
use Rattle.cg_verilog.specs.GivenInits.{GivenInits, are_of}
use Rattle.cg_verilog.specs.Summary.{Ending, Summary, empty, ending, put_fault}

-- the line of the bad token: behind `endmodule` nothing stands, and at its line the inits are looked at
abbrev pub bad_of : ℕ → Ending → Option ℕ
bad_of end e = if e.whole && are_of e.summary.updated e.summary.inits then bad_behind (behind e.left) else Some (line_of end e.left)

abbrev pub with_bad : Summary → Option ℕ → Summary
with_bad s None = s
with_bad s (Some line) = put_fault s line BadText

abbrev pub closed : ℕ → Ending → Summary
closed end e = with_bad e.summary (bad_of end e)

-- the summary of a text behind its head, or the fault of the head
abbrev pub summary_from : List CellData → ℕ → Read NetName → Result Summary VerilogFault
summary_from library end (Stuck left) = Err (faults.BadText (line_of end left))
summary_from library end (Got model later) = Ok (closed end (ending library (empty model) (items later)))

abbrev pub summary_of : List CellData → List ℕ → Result Summary VerilogFault
summary_of library text = summary_from library (end_line text) (header (tokens text))

-- what is built, its registers with their inits, or the first fault
abbrev pub with_given : GivenInits → Building → Building
with_given given b = record b { said = with_inits given.nets given.values b.said }

abbrev pub built_or : Option Building → GivenInits → Result Building VerilogFault
built_or None given = Err (faults.Limit Nets)
built_or (Some b) given = Ok (with_given given b)

abbrev pub outcome_of : Option Fault → Option Building → GivenInits → Result Building VerilogFault
outcome_of (Some fault) built given = Err (at fault.line fault.cause)
outcome_of None built given = built_or built given

abbrev pub outcome : Summary → Result Building VerilogFault
outcome s = outcome_of s.first s.built s.inits

-- and with the clock of the option
abbrev pub clocked_said : Building → Result Said Limit → Result Building VerilogFault
clocked_said b (Ok s) = Ok (record b { said = s })
clocked_said b (Err limit) = Err (faults.Limit limit)

abbrev pub clocked : Option NetName → Building → Result Building VerilogFault
clocked None b = Ok b
clocked (Some net) b = clocked_said b (with_parts (Clock net ∷ []) b.said)

-- one after another
abbrev pub go_on : {A B : Type 0} → Result A VerilogFault → (A → Result B VerilogFault) → Result B VerilogFault
go_on (Ok a) next = next a
go_on (Err fault) next = Err fault

-- the builder of a whole text
abbrev pub builder_of : List CellData → Option NetName → List ℕ → Result Building VerilogFault
builder_of library clock text = go_on (go_on (summary_of library text) outcome) (clocked clock)
