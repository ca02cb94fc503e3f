use Rattle.std.proofs.Common.{◌≡◌, drop}
use Rattle.std.specs.List.{position_from}
use Rattle.std.specs.Str.{bytes_eq}
use Rattle.cg_liberty_expression.proofs.reading.pin_place.Given as goal

abbrev pub invariant-pins : goal.invariant-pins
invariant-pins l = position_from (bytes_eq l.name) l.place (drop l.place l.pins) ≡ position_from (bytes_eq l.name) 0 l.pins
