use Rattle.std.proofs.Common.{◌≡◌, drop, map}
use Rattle.cg_netlist_placed.specs.Placed.{at_role, nets_at}
use Rattle.cg_netlist_placed.specs.inner.Roles.{has_role}
use Rattle.cg_netlist_placed.proofs.PinWordLemmas.{behind}
use Rattle.cg_netlist_placed.proofs.given.nets_of.Given as goal

abbrev pub invariant-pins : goal.invariant-pins
invariant-pins l = behind (map (λ net. net.now) l.nets.items) (at_role (has_role l.role) (drop l.pin-index l.pins) (nets_at (drop l.pin-index l.pins) l.words)) ≡ at_role (has_role l.role) l.pins (nets_at l.pins l.words)
