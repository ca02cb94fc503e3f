use Rattle.std.proofs.Common.{slice_index_or}
use Rattle.cg_unroll.specs.inner.Joining.{IsJoining}
use Rattle.cg_unroll.proofs.goal.enable_literal.Given as goal

abbrev pub invariant-loop-k : goal.invariant-loop-k
invariant-loop-k l = IsJoining (λ x. slice_index_or l.literals x 0) l.enables l.fn.aig l.aig l.joined l.k
