use Rattle.std.proofs.Common.{◌∷◌}
use Rattle.cg_report.proofs.RowOn.{left_after, stepped}
use Rattle.cg_report.proofs.Watching.{may_still, row_shown, shown_step}
use Rattle.cg_report.proofs.showing.show_row.Goals as goal

pub show-requires-2 : goal.show-requires-2
show-requires-2 g c =
    let one = stepped c.in_ok-show.field-0 c.args.player.now c.show.new.self c.requires.row.low (c.requires.row.high ∷ c.requires.row.later) c.requires.row.is c.in_ok-show.ensures.steps in
    may_still c.in_ok-show.field-0 c.args.player.now c.show.new.self ((goal.Watcher-dyn g (c.args.watcher.now.vtable, c.args.watcher.now.value)).stands c.args.watcher.now.value)
    ((goal.Watcher-dyn g (c.show.new.watcher.vtable, c.show.new.watcher.value)).stands c.show.new.watcher.value) one c.requires.watch c.in_ok-show.ensures.steps c.in_ok-show.ensures.given

pub returns-clause-shows : goal.returns-clause-shows
returns-clause-shows g c =
    let old = c.args.player.now in
    let between = c.show.new.self in
    let new = c.show-2.new.self in
    let os = (goal.Watcher-dyn g (c.args.watcher.now.vtable, c.args.watcher.now.value)).stands c.args.watcher.now.value in
    let ms = (goal.Watcher-dyn g (c.show.new.watcher.vtable, c.show.new.watcher.value)).stands c.show.new.watcher.value in
    let ns = (goal.Watcher-dyn g (c.show-2.new.watcher.vtable, c.show-2.new.watcher.value)).stands c.show-2.new.watcher.value in
    let later = c.requires.row.high ∷ c.requires.row.later in
    let one = stepped c.in_ok-show.field-0 old between c.requires.row.low later c.requires.row.is c.in_ok-show.ensures.steps in
    let two = stepped c.in_ok-show-2.field-0 between new c.requires.row.high c.requires.row.later (left_after old between c.requires.row.low later c.requires.row.is one) c.in_ok-show-2.ensures.steps in
    row_shown old between new os ms ns one two (shown_step c.in_ok-show.field-0 old between os ms one c.in_ok-show.ensures.steps c.in_ok-show.ensures.given)
    (shown_step c.in_ok-show-2.field-0 between new ms ns two c.in_ok-show-2.ensures.steps c.in_ok-show-2.ensures.given)
