use Rattle.std.proofs.Common.{◌≡◌, drop, map}
use Rattle.std.specs.List.{list_any}
use Rattle.std.specs.Str.{bytes_eq}
use Rattle.cg_liberty.proofs.port.is_taken.Given as goal

abbrev pub invariant-ports : goal.invariant-ports
invariant-ports l = list_any (bytes_eq l.name) (map (λ port. port.name) l.ports) ≡ list_any (bytes_eq l.name) (map (λ port. port.name) (drop l.port-index l.ports))
