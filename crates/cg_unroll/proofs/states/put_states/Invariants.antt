use Rattle.std.proofs.Common.{drop, slice_index_or}
use Rattle.cg_unroll.specs.inner.States.{IsLayingStates}
use Rattle.cg_unroll.proofs.states.put_states.Given as goal

abbrev pub invariant-loop-k : goal.invariant-loop-k
invariant-loop-k l = IsLayingStates l.machine (λ x. slice_index_or l.sources.nets.now x 0) (λ r. slice_index_or l.sources.own.now r 0) (λ r. slice_index_or l.sources.free.now r 0) l.registers (drop l.k l.registers) l.initial.aig l.aig l.initial.states l.states
