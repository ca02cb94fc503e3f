use Rattle.std.proofs.Common.{◌≡◌}
use Rattle.cg_random.specs.RandomRows.{behind, first_row}
use Rattle.cg_random.proofs.rows.first_row.Given as goal

abbrev pub invariant-bits : goal.invariant-bits
invariant-bits l = (l.row.items ≡ first_row l._made l.fn.generator) × (l.generator ≡ behind l._made l.fn.generator)
