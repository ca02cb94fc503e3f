use Rattle.std.proofs.Common.{drop}
use Rattle.cg_unroll_cycles.specs.inner.Laid.{IsLayingNext, cycle_of}
use Rattle.cg_unroll_cycles.proofs.cycle.put_next.Given as goal

abbrev pub invariant-loop-k : goal.invariant-loop-k
invariant-loop-k l = IsLayingNext l.machine (cycle_of l.before l.initial.aig) l.registers (drop l.k l.registers) l.initial.aig l.aig l.initial.states l.states
