use Rattle.cg_hold.specs.inner.Fitting.{FitWords}
use Rattle.cg_machine.specs.Machine.{MachineData}
use Rattle.cg_hold.proofs.cone_cycles.ConeCycles.take_edge.Given as goal

abbrev pub invariant-loop-place : goal.invariant-loop-place
invariant-loop-place l = (m : MachineData) → FitWords m l.fn.self.nets.items l.fn.self.state.items l.fn.self.scratch.items → FitWords m l.self.nets.items l.self.state.items l.self.scratch.items
