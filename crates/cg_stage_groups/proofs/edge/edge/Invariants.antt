use Rattle.std.proofs.Common.{take}
use Rattle.cg_stage_groups.specs.inner.Edge.{IsEdge}
use Rattle.cg_stage_groups.proofs.edge.edge.Given as goal

abbrev pub invariant-loop-place : goal.invariant-loop-place
invariant-loop-place l = IsEdge l.machine (take l.place l.nets) l.support
