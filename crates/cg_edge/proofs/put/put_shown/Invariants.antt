use Rattle.std.proofs.Common.{◌≡◌, length, map, not, take, if◌then◌else◌}
use Rattle.cg_netlist.specs.Moment.{values_at}
use Rattle.cg_edge.specs.inner.Keeping.{AreMarked, SameBut, walk_of}
use Rattle.cg_edge.proofs.put.put_shown.Given as goal

abbrev pub invariant-loop-net : goal.invariant-loop-net
invariant-loop-net l =
    (values_at l.nets (take l.net-index (map (λ output. output.0) l.outputs)) ≡ take l.net-index (map (λ output. if output.1 then not l.bit else l.bit) l.outputs))
    × SameBut (map (λ output. output.0) l.outputs) l.fn.nets l.nets × AreMarked (walk_of l.netlist) l.marks l.nets × (length l.marks ≡ length l.fn.marks)
