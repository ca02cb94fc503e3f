use Rattle.cg_blif_text.proofs.ToldIsTaken.{text_is_writable}
use Rattle.cg_blif_text.proofs.laws.said_is_writable.Goals as goal

pub returns : goal.returns
returns c = λ text library clock netlist cells named says. text_is_writable library cells clock text netlist named says
