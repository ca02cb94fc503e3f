use Rattle.std.proofs.Common.{◌≡◌, take}
use Rattle.std.specs.List.{filter_map}
use Rattle.cg_stage_list_laws.specs.UnseenList.{taken_at}
use Rattle.cg_odc.proofs.candidates.taken_nets.Given as goal

abbrev pub invariant-loop-guard : goal.invariant-loop-guard
invariant-loop-guard l = l.nets.items ≡ filter_map (taken_at l.machine) (take l.guard-index l.guards)
