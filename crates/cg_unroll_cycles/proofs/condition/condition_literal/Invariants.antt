use Rattle.std.proofs.Common.{slice_index_or}
use Rattle.cg_unroll_cycles.proofs.Joining.{IsOring}
use Rattle.cg_unroll_cycles.proofs.condition.condition_literal.Given as goal

abbrev pub invariant-loop-k : goal.invariant-loop-k
invariant-loop-k l = IsOring (λ x. slice_index_or l.nets x 0) l.terms l.fn.aig l.aig l.joined l.k
