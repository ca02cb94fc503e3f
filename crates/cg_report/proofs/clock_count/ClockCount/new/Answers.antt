use Rattle.cg_report.proofs.ClockEdges.{lines_account}
use Rattle.cg_report.proofs.clock_count.ClockCount.new.Goals as goal

pub returns : goal.returns
returns c = record { edges = λ circuit rows history good few played. lines_account circuit rows history good.well_formed few played }
