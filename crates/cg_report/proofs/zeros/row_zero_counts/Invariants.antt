use Rattle.cg_report.specs.inner.ZeroCounting.{CountRows}
use Rattle.cg_report.proofs.zeros.row_zero_counts.Given as goal

abbrev pub invariant-rows : goal.invariant-rows
invariant-rows l = CountRows l.netlist l.stimulus.rows l._row l.player l.zeros.items
