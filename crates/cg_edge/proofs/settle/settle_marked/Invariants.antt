use Rattle.std.proofs.Common.{◌≡◌, ◌-◌, length}
use Rattle.cg_netlist.specs.Circuit.{cell_nets}
use Rattle.cg_edge.specs.inner.Keeping.{AreSettled, SameBut, walk_of}
use Rattle.cg_edge.proofs.settle.settle_marked.Given as goal

abbrev pub invariant-marked : goal.invariant-marked
invariant-marked l =
    AreSettled (walk_of l.schedule.netlist.now) l.from l.marks l.nets × SameBut (cell_nets l.schedule.netlist.now) l.fn.nets l.nets × (length l.scratch ≡ length l.fn.scratch) × (length l.marks ≡ length l.fn.marks)

abbrev pub decreases-marked : goal.decreases-marked
decreases-marked l = length l.marks - l.from
