use Rattle.std.proofs.Common.{take}
use Rattle.cg_netlist.proofs.FanInLemmas.{AreCut}
use Rattle.cg_netlist.proofs.fan_in.FanIn.new.Given as goal

abbrev pub invariant-loop-cell : goal.invariant-loop-cell
invariant-loop-cell l = AreCut l.drivers (take l.cell-index l.cells) l.starts.items l.above.items
