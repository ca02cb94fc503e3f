use Rattle.std.proofs.Common.{◌≡◌, length, take}
use Rattle.cg_net.specs.Marks.{AreMarked}
use Rattle.cg_netlist_builder.proofs.parts.marks.Given as goal

abbrev pub invariant-loop-net : goal.invariant-loop-net
invariant-loop-net l = (length l.marks.items ≡ l.count) × AreMarked l.marks.items (take l.net-index l.nets)
