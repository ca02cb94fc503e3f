use Rattle.cg_report.specs.inner.Saying.{SayRows}
use Rattle.cg_report.proofs.rows.push_all.Given as goal

abbrev pub invariant-rows : goal.invariant-rows
invariant-rows l = SayRows l.fn.player.simulated.circuit l.fn.player.rows l.row l.player l.fn.text.items l.text.items
