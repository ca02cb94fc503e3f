use Rattle.std.proofs.Common.{[], ◌≡◌, drop}
use Rattle.cg_netlist_placed.specs.inner.Pins.{logic_written}
use Rattle.cg_netlist_placed.proofs.pins.logic_pins.Given as goal

abbrev pub invariant-pins : goal.invariant-pins
invariant-pins l =
    logic_written l.netlist.names l.inputs l.output (drop l.pin-index l.pins) l.next l.words.items
    ≡ logic_written l.netlist.names l.inputs l.output l.pins 0 []
