use Rattle.std.proofs.Common.{◌≡◌, map, take}
use Rattle.cg_stage_list_laws.specs.Literals.{both_literals}
use Rattle.cg_hold.specs.inner.Packed.{packed}
use Rattle.cg_hold.proofs.choice.packed_all.Given as goal

abbrev pub invariant-loop-net : goal.invariant-loop-net
invariant-loop-net l = l.numbers.items ≡ map (packed l.counts) (both_literals (take l.net-index l.nets))
