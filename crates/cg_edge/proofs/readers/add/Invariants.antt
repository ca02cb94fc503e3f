use Rattle.std.proofs.Common.{◌≡◌, take}
use Rattle.cg_edge.specs.inner.Keeping.{IsAdded}
use Rattle.cg_edge.proofs.Reading.{AreLonger}
use Rattle.cg_edge.proofs.readers.add.Given as goal

abbrev pub invariant-loop-net : goal.invariant-loop-net
invariant-loop-net l = IsAdded (take l.net-index l.inputs) l.place l.fn.filling.lists l.filling.lists × (l.filling.room ≡ l.fn.filling.room) × AreLonger l.inputs l.net-index l.fn.filling.lists l.filling.lists
