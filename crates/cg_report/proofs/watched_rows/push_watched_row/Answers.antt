use Rattle.std.proofs.Common.{◌+◌, ◌∷◌, ap, ◌∙◌}
use Rattle.cg_edge.specs.Simulated.{Simulated}
use Rattle.cg_report.proofs.RowOn.{left_after, stepped}
use Rattle.cg_report.proofs.SaidRows.{line_of}
use Rattle.cg_report.proofs.Watching.{row_watched, shown_step}
use Rattle.cg_report.proofs.watched_rows.push_watched_row.Goals as goal

pub returns-clause-watches : goal.returns-clause-watches
returns-clause-watches g c =
    let old = c.args.player.now in
    let between = c.show.new.self in
    let new = c.show-2.new.self in
    let os = (goal.Watcher-dyn g (c.args.watcher.now.vtable, c.args.watcher.now.value)).stands c.args.watcher.now.value in
    let ms = (goal.Watcher-dyn g (c.show.new.watcher.vtable, c.show.new.watcher.value)).stands c.show.new.watcher.value in
    let ns = (goal.Watcher-dyn g (c.show-2.new.watcher.vtable, c.show-2.new.watcher.value)).stands c.show-2.new.watcher.value in
    let later = c.requires.row.high ∷ c.requires.row.later in
    let one = stepped c.in_ok-show.field-0 old between c.requires.row.low later c.requires.row.is c.in_ok-show.ensures.steps in
    let two = stepped c.in_ok-show-2.field-0 between new c.requires.row.high c.requires.row.later (left_after old between c.requires.row.low later c.requires.row.is one) c.in_ok-show-2.ensures.steps in
    row_watched (c.args.row + 1) old between new c.args.text.now.items c.push.new.self.items os ms ns one two (shown_step c.in_ok-show.field-0 old between os ms one c.in_ok-show.ensures.steps c.in_ok-show.ensures.given)
    (shown_step c.in_ok-show-2.field-0 between new ms ns two c.in_ok-show-2.ensures.steps c.in_ok-show-2.ensures.given)
    (line_of old.simulated.circuit c.simulator.result.now.circuit c.simulator-2.result.now.circuit (c.args.row + 1) (c.from.result + 1) one.now two.now c.args.text.now.items c.push_number.new.text.items c.push_outputs.new.text.items
    c.push_outputs-2.new.text.items c.push.new.self.items
    (ap (λ (s : Simulated). s.circuit) c.simulator.ensures ∙ one.circuit) (ap (λ (s : Simulated). s.circuit) c.simulator-2.ensures ∙ (two.circuit ∙ one.circuit)) (ap (λ n. n + 1) c.from.ensures)
    c.in_ok-push_number.ensures
    (c.in_ok-push_outputs.ensures one.now (ap (λ (s : Simulated). s.present) c.simulator.ensures ∙ one.present))
    (c.in_ok-push_outputs-2.ensures two.now (ap (λ (s : Simulated). s.present) c.simulator-2.ensures ∙ two.present))
    c.in_ok-push.ensures.items)
