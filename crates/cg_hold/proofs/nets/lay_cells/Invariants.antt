use Rattle.cg_machine.specs.Machine.{order_of}
use Rattle.cg_hold.proofs.Layings.{first_cells}
use Rattle.cg_hold.specs.inner.Laying.{Lays}
use Rattle.cg_hold.proofs.nets.lay_cells.Given as goal

abbrev pub invariant-loop-place : goal.invariant-loop-place
invariant-loop-place l = Lays (first_cells l.machine.circuit.cells (order_of l.machine) l.place) l.initial.words l.words
