use Rattle.cg_report.proofs.ClockCounting.{said_all}
use Rattle.cg_report.proofs.SaidRows.{on_ok}
use Rattle.cg_report.proofs.clock_count.ClockCountWatcher.line.Goals as goal

pub returns : goal.returns
returns c =
    on_ok _ _ c.push_lines.result (λ said. λ circuit moments stands. said_all circuit moments c.deref.result.now c.args.self.now.clocks.items c.args.out.now.items c.push_lines.new.text.items c.deref.ensures.value stands.0 said)
    c.push_lines.ensures
