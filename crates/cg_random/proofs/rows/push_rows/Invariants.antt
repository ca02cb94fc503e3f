use Rattle.std.proofs.Common.{◌≡◌, length}
use Rattle.cg_random.specs.inner.Making.{MakesRows}
use Rattle.cg_random.proofs.rows.push_rows.Given as goal

abbrev pub invariant-rows : goal.invariant-rows
invariant-rows l = (l.stimulus.inputs ≡ l.fn.stimulus.inputs) × MakesRows (length l.fn.stimulus.inputs) l.count l._made l.stimulus.rows l.row.items l.generator
