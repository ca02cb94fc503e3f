use Rattle.std.proofs.Common.{◌≡◌, drop}
use Rattle.std.specs.List.{list_any}
use Rattle.std.specs.Str.{bytes_eq}
use Rattle.cg_netlist_placed.proofs.given.is_pin.Given as goal

abbrev pub invariant-pins : goal.invariant-pins
invariant-pins l = list_any (λ pin. bytes_eq l.name pin.name) (drop l.pin-index l.pins) ≡ list_any (λ pin. bytes_eq l.name pin.name) l.pins
