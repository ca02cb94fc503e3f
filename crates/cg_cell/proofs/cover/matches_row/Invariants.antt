use Rattle.std.proofs.Common.{◌≡◌, drop}
use Rattle.cg_cell.specs.Cover.{row_matches}
use Rattle.cg_cell.proofs.cover.matches_row.Given as goal

abbrev pub invariant-places : goal.invariant-places
invariant-places l = row_matches (drop l.i l.row) (drop l.i l.bits) ≡ row_matches l.fn.row l.fn.bits
