use Rattle.std.proofs.Common.{drop}
use Rattle.cg_machine.specs.Tries.{TakesEach}
use Rattle.cg_machine.proofs.TryLemmas.{GoesOn}
use Rattle.cg_machine.proofs.machine.Machine.try_walk.Given as goal

abbrev pub invariant-loop-id : goal.invariant-loop-id
invariant-loop-id g l = record {
  may : TakesEach g.F.Fn l.step l.self.circuit.cells (drop l.id-index l.cells) l.state l.values;
  whole : GoesOn g.F.Fn l.step l.self.circuit.cells l.cells l.fn.state l.fn.values (drop l.id-index l.cells) l.state l.values;
}
