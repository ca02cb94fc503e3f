use Rattle.std.proofs.Common.{◌-◌, ◌^◌, take}
use Rattle.cg_netlist_cone.specs.inner.Reaching.{IsEdge, IsReached}
use Rattle.cg_netlist_cone.proofs.reach.reach.Given as goal

abbrev pub invariant-loop-next : goal.invariant-loop-next
invariant-loop-next g l = record {
  reached : IsReached (g.W.Wiring.circuit l.wiring) l.roots l.next l.found;
  edge : IsEdge (g.W.Wiring.circuit l.wiring) (g.W.Wiring.order l.wiring) (take l.next l.found) l.edge.cells l.edge.inputs l.edge.registers;
}

abbrev pub decreases-loop-next : goal.decreases-loop-next
decreases-loop-next g l = 2 ^ 64 - l.next
