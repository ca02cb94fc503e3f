use Rattle.std.proofs.Common.{◌≡◌, ◌++◌, drop, map}
use Rattle.cg_netlist.specs.View.{gater_seen}
use Rattle.cg_netlist.specs.Wiring.{map_gater}
use Rattle.cg_net.specs.Names.{net_name}
use Rattle.cg_netlist_placed.specs.PinsOf.{gater_net, pin_pairs}
use Rattle.cg_netlist_placed.proofs.pins.gater_pins.Given as goal

abbrev pub invariant-pins : goal.invariant-pins
invariant-pins l = l.words.items ++ pin_pairs (drop l.pin-index l.pins) (map (gater_net (map_gater (net_name l.netlist.names) (gater_seen l.gater))) (drop l.pin-index l.pins))
    ≡ pin_pairs l.pins (map (gater_net (map_gater (net_name l.netlist.names) (gater_seen l.gater))) l.pins)
