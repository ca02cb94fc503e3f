use Rattle.std.proofs.Common.{◌≡◌, take}
use Rattle.std.specs.List.{filter_map}
use Rattle.cg_stage_groups.specs.Keys.{groups_seen}
use Rattle.cg_odc.specs.inner.Kept.{left_stage}
use Rattle.cg_odc.proofs.candidates.stages.Given as goal

abbrev pub invariant-loop-place : goal.invariant-loop-place
invariant-loop-place l = l.stages ≡ filter_map (left_stage l.machine l.kept.keys) (groups_seen (take l.place l.groups.keys.keys) (take l.place l.groups.regs.items))
