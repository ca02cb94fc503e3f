use Rattle.cg_report.proofs.ZeroRows.{none_counted}
use Rattle.cg_report.proofs.zeros.count_zeros.Goals as goal

pub loop-net-init : goal.loop-net-init
loop-net-init c = none_counted c.args.nets.now c.args.zeros.now
