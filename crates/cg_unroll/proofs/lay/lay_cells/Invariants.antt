use Rattle.std.proofs.Common.{drop}
use Rattle.cg_netlist.specs.Moment.{values_at}
use Rattle.cg_unroll.specs.Building.{IsLaying}
use Rattle.cg_unroll.proofs.lay.lay_cells.Given as goal

abbrev pub invariant-loop-k : goal.invariant-loop-k
invariant-loop-k l = IsLaying (values_at l.machine.circuit.cells l.cells) (values_at l.machine.circuit.cells (drop l.k l.cells)) l.initial.aig l.aig l.initial.literals l.literals
