use Rattle.cg_hold.proofs.Layings.{first_cells}
use Rattle.cg_hold.specs.inner.Laying.{Lays}
use Rattle.cg_hold.proofs.cone_cycles.lay_cone.Given as goal

abbrev pub invariant-loop-id : goal.invariant-loop-id
invariant-loop-id l = Lays (first_cells l.machine.circuit.cells l.look.cone.now.cells l.id-index) l.initial.words l.words
