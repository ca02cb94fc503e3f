use Rattle.std.proofs.Common.{◌≡◌, length}
use Rattle.cg_netlist.specs.Circuit.{cell_nets}
use Rattle.cg_edge.specs.inner.Keeping.{SameBut, walk_of}
use Rattle.cg_edge.proofs.Marked.{AreSwept}
use Rattle.cg_edge.proofs.settle.sweep.Given as goal

abbrev pub invariant-loop-place : goal.invariant-loop-place
invariant-loop-place l = record {
  swept : AreSwept (walk_of l.schedule.netlist.now) l.place l.nets;
  same : SameBut (cell_nets l.schedule.netlist.now) l.fn.nets l.nets;
  room : length l.scratch ≡ length l.fn.scratch;
}
