use Rattle.std.proofs.Common.{arith}
use Rattle.cg_aig.proofs.Fills.{constant_first}
use Rattle.cg_aig.proofs.values.fill_leaves.Goals as goal

pub loop-k-init : goal.loop-k-init
loop-k-init c = constant_first c.args.buffer.now (omega arith)
