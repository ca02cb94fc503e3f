use Rattle.std.proofs.Common.{◌≡◌, take}
use Rattle.cg_random.specs.RandomRows.{behind, next_row}
use Rattle.cg_random.proofs.rows.next_row.Given as goal

abbrev pub invariant-bits : goal.invariant-bits
invariant-bits l = (l.row.items ≡ next_row (take l.bit-index l.before) l.fn.generator) × (l.generator ≡ behind l.bit-index l.fn.generator)
