use Rattle.std.proofs.Common.{◌≡◌, drop, map, max}
use Rattle.cg_netlist.specs.Netlist.{widest_of}
use Rattle.cg_machine.specs.Gates.{gate_cell}
use Rattle.cg_machine.proofs.gates.Gates.widest.Given as goal

abbrev pub invariant-loop-number : goal.invariant-loop-number
invariant-loop-number l = max l.widest (widest_of (map gate_cell (drop l.number l.self))) ≡ widest_of (map gate_cell l.self)
