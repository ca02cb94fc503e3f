-- The netlist that a structural Verilog text says with the cells of a library and the clock of the words, or why the text is refused.
use Rattle.std.specs.Prelude.{◌≡◌, ℕ, List, ◌++◌, codes, decimal, Option, Result, Err}
use Rattle.cg_cell.specs.Cell.{CellData}
use Rattle.cg_netlist.specs.Circuit.{Circuit}
use Rattle.cg_net.specs.Names.{NetName}
use Rattle.cg_run.specs.declared.refusal.Owner.TheVariants as owners
use Rattle.cg_run.specs.declared.refusal.Trouble.{Trouble}
use Rattle.cg_run.specs.declared.refusal.Trouble.TheVariants as troubles
use Rattle.cg_verilog_text.specs.ReadAs.{ReadAs}
use Rattle.cg_verilog_text.specs.declared.fault.VerilogFault.{VerilogFault}
use Rattle.cg_verilog_text.specs.declared.fault.VerilogFault.TheVariants as faults
use Rattle.cg_verilog_text.proofs.ReadOnce.{read_as}
use Rattle.cg_source.specs.NetFault.{net_trouble}
use Rattle.cg_source.specs.Refused.{refused_as, refused_for}

-- What a text is read as. That it is read as one thing, and what the netlist and the fault have to do with the text, is what
-- `ReadAs` says.
abbrev pub reading : (library : List CellData) (clock : Option NetName) (text : List ℕ) → ReadAs library clock text
reading library clock text = read_as library clock text

unfoldable pub verilog_said : List CellData → Option NetName → List ℕ → Result Circuit VerilogFault
verilog_said library clock text = (reading library clock text).result

-- a fault is the one for which a text is refused, or memory is wanting
abbrev pub IsVerilogFaultOf : Result Circuit VerilogFault → VerilogFault → Type 0
IsVerilogFaultOf read faults.NoMemory = Unit {0}
IsVerilogFaultOf read fault = read ≡ Err fault

-- why a text is refused
abbrev pub verilog_trouble : VerilogFault → Trouble
verilog_trouble (faults.BadText line) = refused_for owners.Netlist (codes "netlist: bad line " ++ decimal line)
verilog_trouble (faults.UnknownCell line) = refused_for owners.Netlist (codes "netlist: unknown cell " ++ decimal line)
verilog_trouble (faults.UnusableCell line) = refused_for owners.Netlist (codes "netlist: unusable cell " ++ decimal line)
verilog_trouble (faults.PinFault line) = refused_for owners.Netlist (codes "netlist: pin fault " ++ decimal line)
verilog_trouble (faults.Net fault) = net_trouble fault
verilog_trouble (faults.Limit limit) = troubles.Limit limit
verilog_trouble faults.NoMemory = troubles.NoMemory

abbrev pub verilog_found : List CellData → Option NetName → List ℕ → Result Circuit Trouble
verilog_found library clock text = refused_as verilog_trouble (verilog_said library clock text)
