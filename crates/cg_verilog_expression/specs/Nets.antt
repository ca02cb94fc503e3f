-- Nets as they are read.
use Rattle.std.specs.Prelude.{ℕ, List}
use Rattle.cg_verilog_expression.specs.declared.net.NetText.{NetText}
use Rattle.cg_verilog_expression.specs.declared.net.NetText.TheVariants.{Lent, Made}

abbrev pub net_seen : NetText → List ℕ
net_seen (Lent name) = name
net_seen (Made name) = name
