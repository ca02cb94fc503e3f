use Rattle.cg_verilog_text.proofs.ReadOnce.{read_as, read_once}
use Rattle.cg_verilog_text.proofs.laws.text_is_read_once.Goals as goal

pub returns : goal.returns
returns c = λ library clock text. record { read = read_as library clock text; once = read_once library clock text }
