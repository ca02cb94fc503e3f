use Rattle.std.proofs.Common.{false, replicate}
use Rattle.cg_edge.specs.inner.Stepped.{IsWritten}
use Rattle.std.proofs.Common.{length}
use Rattle.cg_edge.proofs.register_step.clear.Given as goal

abbrev pub invariant-loop-place : goal.invariant-loop-place
invariant-loop-place l = IsWritten l.place l.fn.bits (replicate (length l.fn.bits) false) l.bits
