use Rattle.cg_lrat.proofs.ReadingOn.{steps_go}
use Rattle.cg_lrat.proofs.lrat.read_text.Goals as goal

pub lines-preserved : goal.lines-preserved
lines-preserved c =
    steps_go c.lines.steps c.push.new.self c.lines.lines.left c.in-Ok.line c.next_line.new.self.left c.in_ok-step.step _
    c.in_ok-push.ensures.added c.in-Ok.ensures.line c.in_ok-step.ensures c.lines.invariant

pub lines-preserved-in_ok-push : goal.lines-preserved-in_ok-push
lines-preserved-in_ok-push c =
    steps_go c.lines.steps c.push.new.self c.lines.lines.left c.in-Ok.line c.next_line.new.self.left c.in_ok-step.step _
    c.in_ok-push.ensures.added c.in-Ok.ensures.line c.in_ok-step.ensures c.lines.invariant
