use Rattle.std.proofs.Common.{◌≡◌, map, take, slice_index_or}
use Rattle.cg_unroll.proofs.lay.read_literals.Given as goal

abbrev pub invariant-loop-k : goal.invariant-loop-k
invariant-loop-k l = l.buffer.items ≡ map (λ net. slice_index_or l.literals net 0) (take l.k l.nets)
