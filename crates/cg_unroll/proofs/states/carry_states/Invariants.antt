use Rattle.std.proofs.Common.{take}
use Rattle.cg_unroll.specs.inner.States.{Carries}
use Rattle.cg_unroll.proofs.states.carry_states.Given as goal

abbrev pub invariant-loop-k : goal.invariant-loop-k
invariant-loop-k l = Carries (take l.k l.registers) l.states l.initial.others l.others
