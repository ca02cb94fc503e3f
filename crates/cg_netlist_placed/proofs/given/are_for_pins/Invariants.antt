use Rattle.std.proofs.Common.{◌≡◌, true, take}
use Rattle.cg_netlist_placed.specs.Placed.{are_for_pins}
use Rattle.cg_netlist_placed.proofs.given.are_for_pins.Given as goal

abbrev pub invariant-words : goal.invariant-words
invariant-words l = are_for_pins l.pins (take l.at l.words) ≡ true
