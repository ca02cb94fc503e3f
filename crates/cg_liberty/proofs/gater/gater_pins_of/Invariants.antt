use Rattle.std.proofs.Common.{◌≡◌, drop}
use Rattle.cg_liberty.specs.Kinds.{gater_pins}
use Rattle.cg_liberty.proofs.GaterCells.{behind}
use Rattle.cg_liberty.proofs.gater.gater_pins_of.Given as goal

abbrev pub invariant-ports : goal.invariant-ports
invariant-ports l = behind l.pins.items (gater_pins l.tested (drop l.port-index l.ports)) ≡ gater_pins l.tested l.ports
