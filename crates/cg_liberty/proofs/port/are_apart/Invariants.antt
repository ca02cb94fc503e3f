use Rattle.std.proofs.Common.{◌≡◌, drop, map}
use Rattle.cg_cell.specs.Name.{are_distinct}
use Rattle.cg_liberty.proofs.port.are_apart.Given as goal

abbrev pub invariant-ports : goal.invariant-ports
invariant-ports l = are_distinct (map (λ port. port.name) l.ports) ≡ are_distinct (map (λ port. port.name) (drop l.i l.ports))
