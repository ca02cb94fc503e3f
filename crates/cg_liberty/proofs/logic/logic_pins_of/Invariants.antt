use Rattle.std.proofs.Common.{◌≡◌, ◌++◌, drop}
use Rattle.cg_liberty.specs.Kinds.{logic_pins}
use Rattle.cg_liberty.proofs.logic.logic_pins_of.Given as goal

abbrev pub invariant-ports : goal.invariant-ports
invariant-ports l = l.pins.items ++ logic_pins (drop l.port-index l.ports) ≡ logic_pins l.ports
