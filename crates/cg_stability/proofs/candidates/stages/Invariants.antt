use Rattle.std.proofs.Common.{◌≡◌, map, take}
use Rattle.cg_stage_groups.specs.Keys.{groups_seen}
use Rattle.cg_stage_list_laws.specs.StableList.{stable_stage}
use Rattle.cg_stability.proofs.candidates.stages.Given as goal

abbrev pub invariant-loop-place : goal.invariant-loop-place
invariant-loop-place l = l.stages ≡ map stable_stage (groups_seen (take l.place l.groups.keys.keys) (take l.place l.groups.regs.items))
