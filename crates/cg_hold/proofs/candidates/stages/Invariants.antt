use Rattle.std.proofs.Common.{◌≡◌}
use Rattle.std.specs.List.{filter_map, range_with_len}
use Rattle.cg_stage_list_laws.specs.Literals.{both_literals}
use Rattle.cg_hold.specs.inner.Choosing.{stage_at}
use Rattle.cg_hold.proofs.candidates.stages.Given as goal

abbrev pub invariant-loop-number : goal.invariant-loop-number
invariant-loop-number l = l.stages ≡ filter_map (stage_at l.lists) (both_literals (range_with_len 0 l.number))
