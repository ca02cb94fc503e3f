use Rattle.std.proofs.Common.{◌≡◌, drop}
use Rattle.std.specs.List.{list_any}
use Rattle.std.specs.Str.{bytes_eq}
use Rattle.cg_liberty.proofs.flop.is_name_taken.Given as goal

abbrev pub invariant-names : goal.invariant-names
invariant-names l = list_any (bytes_eq l.name) l.names ≡ list_any (bytes_eq l.name) (drop l.other-index l.names)
