use Rattle.std.proofs.Common.{refl, ap, ◌∙◌, arith}
use Rattle.cg_report.specs.Place.{played_moments}
use Rattle.cg_report.proofs.RowOn.{has_row}
use Rattle.cg_report.proofs.Watching.{edges_all, line_on, shows_more, shows_none, stands_all}
use Rattle.cg_report.proofs.edges.watch_all.Goals as goal

pub rows-init : goal.rows-init
rows-init g c = record {
  shows = shows_none c.args.player.now.simulated.circuit c.args.player.now.rows c.args.player.now _ refl refl c.requires.first.left c.requires.first.at c.requires.begun;
  name = refl;
  kind = refl;
}

pub show_row-requires-clause-row : goal.show_row-requires-clause-row
show_row-requires-clause-row g c =
    has_row c.args.player.now.simulated.circuit c.args.player.now.rows c.rows._row c.rows.player c.rows.invariant.shows.played c.rows.invariant.shows.behind (omega (arith, c.rows-test.true, c.requires.first.count))

pub rows-preserved : goal.rows-preserved
rows-preserved g c =
    let os = (goal.Watcher-dyn g (c.rows.watcher.vtable, c.rows.watcher.value)).stands c.rows.watcher.value in
    let ns = (goal.Watcher-dyn g (c.show_row.new.watcher.vtable, c.show_row.new.watcher.value)).stands c.show_row.new.watcher.value in
    record {
      shows = shows_more c.args.player.now.simulated.circuit c.args.player.now.rows c.rows._row c.rows.player c.show_row.new.player os ns c.rows.invariant.shows (omega (arith, c.rows-test.true, c.requires.first.count)) c.in_ok-show_row.ensures.shows;
      name = c.in_ok-show_row.ensures.same_name ∙ c.rows.invariant.name;
      kind = c.in_ok-show_row.ensures.same_kind ∙ c.rows.invariant.kind;
    }

pub returns-clause-edges : goal.returns-clause-edges
returns-clause-edges g c =
    edges_all c.args.player.now.simulated.circuit c.args.player.now.rows c.rows._row c.rows.player c.show.new.self c.in_ok-show.field-0 c.rows.invariant.shows.played c.edges.result c.rows.invariant.shows.behind
    (omega (arith, c.rows-test.false, c.requires.first.count)) c.in_ok-show.ensures.steps c.edges.ensures.edges c.requires.first.one

pub returns-clause-said : goal.returns-clause-said
returns-clause-said g c history played =
    let netlist = c.args.player.now.simulated.circuit in
    let rows = c.args.player.now.rows in
    let os = (goal.Watcher-dyn g (c.rows.watcher.vtable, c.rows.watcher.value)).stands c.rows.watcher.value in
    let ns = (goal.Watcher-dyn g (c.show.new.watcher.vtable, c.show.new.watcher.value)).stands c.show.new.watcher.value in
    let moments = played_moments netlist rows history in
    let stands = stands_all netlist rows c.rows._row c.rows.player c.show.new.self c.in_ok-show.field-0 c.rows.invariant.shows.played os ns c.rows.invariant.shows.behind
    (omega (arith, c.rows-test.false, c.requires.first.count)) c.in_ok-show.ensures.steps c.in_ok-show.ensures.given c.rows.invariant.shows.stands_for c.requires.first.one history played in
    let kind = c.in_ok-show.ensures.same_kind ∙ c.rows.invariant.kind in
    line_on c.args.text.now.items _ _ _ (c.in_ok-push_line.ensures netlist moments stands) (ap (λ says. says netlist moments) kind)
