use Rattle.std.proofs.Common.{◌≡◌, drop}
use Rattle.cg_cell.specs.Name.{are_distinct}
use Rattle.cg_liberty.proofs.flop.are_names_apart.Given as goal

abbrev pub invariant-names : goal.invariant-names
invariant-names l = are_distinct l.names ≡ are_distinct (drop l.i l.names)
