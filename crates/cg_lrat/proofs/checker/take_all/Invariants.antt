use Rattle.std.proofs.Common.{◌≡◌, drop}
use Rattle.cg_lrat.specs.Accepted.{verdict_from}
use Rattle.cg_lrat.specs.inner.Progress.{state_of}
use Rattle.cg_lrat.proofs.checker.take_all.Given as goal

abbrev pub invariant-loop-place : goal.invariant-loop-place
invariant-loop-place l = verdict_from (state_of l.progress) (drop l.place l.steps) ≡ verdict_from (state_of l.fn.progress) l.fn.steps
