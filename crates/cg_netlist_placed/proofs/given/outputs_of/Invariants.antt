use Rattle.std.proofs.Common.{◌≡◌, ◌++◌, drop, map}
use Rattle.cg_netlist_placed.specs.Placed.{nets_at, shown_at}
use Rattle.cg_netlist_placed.specs.inner.Roles.{net_and_place, seen_outputs}
use Rattle.cg_netlist_placed.proofs.given.outputs_of.Given as goal

abbrev pub invariant-pins : goal.invariant-pins
invariant-pins l = map net_and_place l.outputs.items ++ seen_outputs (shown_at l.at (drop l.at l.pins) (nets_at (drop l.at l.pins) l.words)) ≡ seen_outputs (shown_at 0 l.pins (nets_at l.pins l.words))
