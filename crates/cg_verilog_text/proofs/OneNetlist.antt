-- No text says two netlists.
use Rattle.std.proofs.Common.{◌≡◌, ℕ, List, Option, Ok, sym, ◌∙◌}
use Rattle.std.specs.Prelude.{Result}
use Rattle.cg_cell.specs.Cell.{CellData}
use Rattle.cg_net.specs.Names.{NetName}
use Rattle.cg_netlist.specs.Circuit.{Circuit}
use Rattle.cg_netlist_parts.specs.Said.{Said, said}
use Rattle.cg_verilog_text.proofs.SameSaid.{one_netlist}
use Rattle.cg_verilog_text.specs.VerilogText.{VerilogText}
use Rattle.cg_verilog_text.specs.declared.fault.VerilogFault.{VerilogFault}

same : (s t : Said) → ◌≡◌ {A = Result Said VerilogFault} (Ok s) (Ok t) → s ≡ t
same s t is = cc

pub no_two : (text : List ℕ) (library : List CellData) (clock : Option NetName) (c d : Circuit) → VerilogText text library clock c → VerilogText text library clock d → c ≡ d
no_two text library clock c d one other =
    let told : said one.parts ≡ said other.parts = same (said one.parts) (said other.parts) (sym one.tells.told ∙ other.tells.told) in
    let model : d.model ≡ c.model = sym other.tells.model_is ∙ one.tells.model_is in
    one_netlist c.model one.parts other.parts c d told one.says
    (record { model_is = model; wired_is = other.says.wired_is; rooted = other.says.rooted; formed = other.says.formed; ordered = other.says.ordered; few_nets = other.says.few_nets; few_registers = other.says.few_registers })
