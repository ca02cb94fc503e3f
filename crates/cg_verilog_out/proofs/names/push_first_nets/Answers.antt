use Rattle.std.proofs.Common.{suc, arith}
use Rattle.cg_verilog_out.proofs.names.push_first_nets.Goals as goal

pub push_net-requires : goal.push_net-requires
push_net-requires c = c.requires 0 (omega arith)

pub push_more_nets-requires : goal.push_more_nets-requires
push_more_nets-requires c = λ k below. c.requires (suc k) (omega (arith, below))
