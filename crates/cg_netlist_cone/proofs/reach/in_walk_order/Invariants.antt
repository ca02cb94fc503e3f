use Rattle.std.proofs.Common.{◌≡◌, take}
use Rattle.cg_netlist.specs.Moment.{values_at}
use Rattle.cg_netlist_cone.proofs.reach.in_walk_order.Given as goal

abbrev pub invariant-loop-place : goal.invariant-loop-place
invariant-loop-place g l = l.cells ≡ values_at (g.W.Wiring.order l.wiring) (take l.place-index l.place-items)
