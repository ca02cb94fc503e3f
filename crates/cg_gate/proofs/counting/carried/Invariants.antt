use Rattle.std.proofs.Common.{◌≡◌, map, slice_index_or, take}
use Rattle.cg_gate.specs.ZeroCounting.{zeros_by}
use Rattle.cg_gate.proofs.counting.carried.Given as goal

abbrev pub invariant-loop-net : goal.invariant-loop-net
invariant-loop-net l = l.counts.items ≡ map (zeros_by (λ net. slice_index_or l.zeros net 0)) (take l.net-index l.origin)
