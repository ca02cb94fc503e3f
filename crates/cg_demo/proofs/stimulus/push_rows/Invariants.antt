use Rattle.std.proofs.Common.{◌≡◌, ◌++◌}
use Rattle.cg_demo.specs.Pipeline.{each, row}
use Rattle.cg_demo.proofs.stimulus.push_rows.Given as goal

abbrev pub invariant-rows : goal.invariant-rows
invariant-rows l = l.text.items ≡ l.fn.text.items ++ each l.j (row l.n)
