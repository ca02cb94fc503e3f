use Rattle.std.proofs.Common.{◌≡◌, take}
use Rattle.cg_stage_groups.proofs.finder.numbers_of.Given as goal

abbrev pub invariant-loop-place : goal.invariant-loop-place
invariant-loop-place l = l.numbers.items ≡ take l.place l.nets
