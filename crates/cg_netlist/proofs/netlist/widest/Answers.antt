use Rattle.std.proofs.Common.{arith}
use Rattle.cg_netlist.proofs.WidthLemmas.{widest_of-more}
use Rattle.cg_netlist.proofs.netlist.widest.Goals as goal

pub loop-cell-preserved : goal.loop-cell-preserved
loop-cell-preserved c = grind (arith, widest_of-more c.args.cells.now c.loop-cell.cell-index c.cell-item.result c.loop-cell-test.true)
