use Rattle.std.proofs.Common.{slice_index_or}
use Rattle.cg_unroll_cycles.proofs.Joining.{IsAnding}
use Rattle.cg_unroll_cycles.proofs.condition.term_literal.Given as goal

abbrev pub invariant-loop-k : goal.invariant-loop-k
invariant-loop-k l = IsAnding (λ x. slice_index_or l.nets x 0) l.term l.fn.aig l.aig l.joined l.k
