use Rattle.std.proofs.Common.{List}
use Rattle.cg_netlist.specs.History.{Moment}
use Rattle.cg_report.specs.inner.RowByRow.{IsBehind}
use Rattle.cg_report.proofs.edges.play_edges.Given as goal

abbrev pub invariant-rows : goal.invariant-rows
invariant-rows l = (played : List Moment) × IsBehind l.netlist l.stimulus.rows l._row l.player played
