use Rattle.std.proofs.Common.{◌+◌, ◌∷◌, ap, ◌∙◌}
use Rattle.cg_edge.specs.Simulated.{Simulated}
use Rattle.cg_report.proofs.RowOn.{left_after, stepped}
use Rattle.cg_report.proofs.SaidRows.{line_of, row_said}
use Rattle.cg_report.proofs.rows.push_row.Goals as goal

pub returns : goal.returns
returns c =
    let old = c.args.player.now in
    let between = c.step.new.self in
    let new = c.step-2.new.self in
    let one = stepped c.step.result old between c.requires.low (c.requires.high ∷ c.requires.later) c.requires.is c.step.ensures.steps in
    let left = left_after old between c.requires.low (c.requires.high ∷ c.requires.later) c.requires.is one in
    let two = stepped c.step-2.result between new c.requires.high c.requires.later left c.step-2.ensures.steps in
    row_said (c.args.row + 1) old between new c.args.text.now.items c.push.new.self.items one two
    (line_of old.simulated.circuit c.simulator.result.now.circuit c.simulator-2.result.now.circuit (c.args.row + 1) (c.from.result + 1) one.now two.now c.args.text.now.items c.push_number.new.text.items c.push_outputs.new.text.items
    c.push_outputs-2.new.text.items c.push.new.self.items
    (ap (λ (s : Simulated). s.circuit) c.simulator.ensures ∙ one.circuit) (ap (λ (s : Simulated). s.circuit) c.simulator-2.ensures ∙ (two.circuit ∙ one.circuit)) (ap (λ n. n + 1) c.from.ensures)
    c.in_ok-push_number.ensures
    (c.in_ok-push_outputs.ensures one.now (ap (λ (s : Simulated). s.present) c.simulator.ensures ∙ one.present))
    (c.in_ok-push_outputs-2.ensures two.now (ap (λ (s : Simulated). s.present) c.simulator-2.ensures ∙ two.present))
    c.in_ok-push.ensures.items)
