use Rattle.std.proofs.Common.{◌≡◌, length}
use Rattle.cg_unroll_cycles.specs.Asking.{question_of}
use Rattle.cg_unroll_cycles.specs.inner.Reached.{AreBack}
use Rattle.cg_unroll_cycles.proofs.reached.CycleReacher.later.Given as goal

abbrev pub invariant-loop-count : goal.invariant-loop-count
invariant-loop-count l = record { count : length l.cycles ≡ l.count; back : AreBack l.machine (question_of l.question) l.cycles }
