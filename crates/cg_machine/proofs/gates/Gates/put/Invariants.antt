use Rattle.std.proofs.Common.{◌≡◌, drop, map}
use Rattle.cg_netlist.specs.Nets.{put_cells}
use Rattle.cg_machine.specs.Gates.{gate_cell}
use Rattle.cg_machine.proofs.gates.Gates.put.Given as goal

abbrev pub invariant-loop-number : goal.invariant-loop-number
invariant-loop-number l = put_cells (map gate_cell (drop l.number l.self)) l.values ≡ put_cells (map gate_cell l.self) l.fn.values
