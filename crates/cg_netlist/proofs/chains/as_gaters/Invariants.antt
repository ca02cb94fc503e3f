use Rattle.std.proofs.Common.{◌≡◌, take}
use Rattle.cg_netlist.proofs.chains.as_gaters.Given as goal

abbrev pub invariant-loop-cell : goal.invariant-loop-cell
invariant-loop-cell l = l.gaters.items ≡ take l.cell-index l.cells
