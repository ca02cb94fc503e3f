use Rattle.std.proofs.Common.{◌≡◌, length}
use Rattle.cg_edge.proofs.Reading.{AreCounted}
use Rattle.cg_edge.proofs.reads.count.Given as goal

abbrev pub invariant-loop-net : goal.invariant-loop-net
invariant-loop-net l = (length l.counts.items ≡ length l.fn.counts.items) × AreCounted l.inputs l.net-index l.fn.counts.items l.counts.items
