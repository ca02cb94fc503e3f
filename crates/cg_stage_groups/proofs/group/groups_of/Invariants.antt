use Rattle.std.proofs.Common.{◌≡◌, length}
use Rattle.std.specs.List.{range_with_len}
use Rattle.cg_stage_groups.specs.Keys.{groups_seen, key_at}
use Rattle.cg_stage_list_laws.specs.Groups.{groups}
use Rattle.cg_stage_list_laws.specs.StableList.{same_stable}
use Rattle.cg_stage_groups.proofs.group.groups_of.Given as goal

abbrev pub invariant-loop-reg : goal.invariant-loop-reg
invariant-loop-reg l = record {
  even : length l.found.regs.items ≡ length l.found.keys.keys;
  groups : groups_seen l.found.keys.keys l.found.regs.items ≡ groups same_stable (key_at l.keys) (range_with_len 0 l.reg);
}
