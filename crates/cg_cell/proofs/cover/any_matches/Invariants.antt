use Rattle.std.proofs.Common.{drop}
use Rattle.cg_cell.proofs.Covers.{Leaves}
use Rattle.cg_cell.proofs.cover.any_matches.Given as goal

abbrev pub invariant-rows : goal.invariant-rows
invariant-rows l = Leaves l.bits l.rows (drop l.k l.rows)
