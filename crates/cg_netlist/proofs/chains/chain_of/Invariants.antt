use Rattle.std.proofs.Common.{◌≡◌, map, take}
use Rattle.cg_netlist.specs.Chains.{chain_cell}
use Rattle.cg_netlist.proofs.chains.chain_of.Given as goal

abbrev pub invariant-loop-gater : goal.invariant-loop-gater
invariant-loop-gater l = l.cells.items ≡ map chain_cell (take l.gater-index l.gaters)
