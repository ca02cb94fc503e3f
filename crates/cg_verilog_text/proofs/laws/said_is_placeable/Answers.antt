use Rattle.cg_verilog_text.proofs.TextIsTaken.{text_is_placeable}
use Rattle.cg_verilog_text.proofs.laws.said_is_placeable.Goals as goal

pub returns : goal.returns
returns c = λ text library clock netlist proper says. text_is_placeable library proper.cells clock text netlist proper.named says
