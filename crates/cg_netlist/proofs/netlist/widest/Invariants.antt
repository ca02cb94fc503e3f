use Rattle.std.proofs.Common.{◌≡◌, take}
use Rattle.cg_netlist.specs.Netlist.{widest_of}
use Rattle.cg_netlist.proofs.netlist.widest.Given as goal

abbrev pub invariant-loop-cell : goal.invariant-loop-cell
invariant-loop-cell l = l.widest ≡ widest_of (take l.cell-index l.cells)
