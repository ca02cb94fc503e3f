use Rattle.std.proofs.Common.{◌≡◌, ◌≤◌, ◌++◌, drop}
use Rattle.cg_liberty.specs.Kinds.{flop_pins}
use Rattle.cg_liberty.proofs.flop.flop_pins_of.Given as goal

abbrev pub invariant-ports : goal.invariant-ports
invariant-ports l = record {
  pins : l.pins.items ++ flop_pins l.clock l.k l.left (drop l.port-index l.ports) ≡ flop_pins l.clock 0 l.inverses l.ports;
  few : l.k ≤ l.port-index;
}
