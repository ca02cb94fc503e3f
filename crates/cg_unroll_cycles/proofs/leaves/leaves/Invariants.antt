use Rattle.std.proofs.Common.{◌≡◌, ◌++◌}
use Rattle.std.specs.List.{flat_map, range_with_len}
use Rattle.cg_hint_laws.specs.Leaves.{leaves_at}
use Rattle.cg_unroll_cycles.specs.Asking.{question_of}
use Rattle.cg_unroll_cycles.proofs.leaves.leaves.Given as goal

abbrev pub invariant-loop-before : goal.invariant-loop-before
invariant-loop-before l = l.leaves.items ≡ leaves_at l.machine (question_of l.question) 0 ++ flat_map (leaves_at l.machine (question_of l.question)) (range_with_len 1 l.before)
