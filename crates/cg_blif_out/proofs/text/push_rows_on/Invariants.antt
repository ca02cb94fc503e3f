use Rattle.std.proofs.Common.{◌≡◌, ◌++◌, drop}
use Rattle.cg_blif_out.specs.Writing.{rows_text}
use Rattle.cg_blif_out.proofs.text.push_rows_on.Given as goal

abbrev pub invariant-rows : goal.invariant-rows
invariant-rows l = l.out.items ++ rows_text l.on (drop l.k l.rows) ≡ l.fn.out.items ++ rows_text l.on l.rows
