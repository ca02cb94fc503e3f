use Rattle.std.proofs.Common.{refl, ◌+◌, ◌≤◌, ◌++◌, ◌∷◌, [], length, ap, ◌∙◌, append_assoc, arith}
use Rattle.cg_report.specs.Place.{played_moments}
use Rattle.cg_report.proofs.RowOn.{has_row}
use Rattle.cg_report.proofs.SaidRows.{on_ok, said_all}
use Rattle.cg_report.proofs.Watching.{stands_all, watches_more, watches_none}
use Rattle.cg_report.proofs.watched_rows.push_all.Goals as goal

pub rows-init : goal.rows-init
rows-init g c = record {
  watches = watches_none c.args.player.now.simulated.circuit c.args.player.now.rows c.args.player.now c.args.text.now.items _ refl refl c.requires.first.left c.requires.first.at
      c.requires.begun;
  name = refl;
  kind = refl;
}

pub push_watched_row-requires-clause-row : goal.push_watched_row-requires-clause-row
push_watched_row-requires-clause-row g c =
    has_row c.args.player.now.simulated.circuit c.args.player.now.rows c.rows.row c.rows.player c.rows.invariant.watches.said.played c.rows.invariant.watches.said.behind (omega (arith, c.rows-test.true, c.requires.first.count))

pub rows-preserved : goal.rows-preserved
rows-preserved g c =
    let os = (goal.Watcher-dyn g (c.rows.watcher.vtable, c.rows.watcher.value)).stands c.rows.watcher.value in
    let ns = (goal.Watcher-dyn g (c.push_watched_row.new.watcher.vtable, c.push_watched_row.new.watcher.value)).stands c.push_watched_row.new.watcher.value in
    record {
      watches = watches_more c.args.player.now.simulated.circuit c.args.player.now.rows c.rows.row (c.rows.row + 1) c.rows.player c.push_watched_row.new.player c.args.text.now.items c.rows.text.items c.push_watched_row.new.text.items os ns
          c.rows.invariant.watches (omega (arith, c.rows-test.true, c.requires.first.count)) (omega arith) c.in_ok-push_watched_row.ensures.watches;
      name = c.in_ok-push_watched_row.ensures.same_name ∙ c.rows.invariant.name;
      kind = c.in_ok-push_watched_row.ensures.same_kind ∙ c.rows.invariant.kind;
    }

pub returns-clause-said : goal.returns-clause-said
returns-clause-said g c =
    let netlist = c.args.player.now.simulated.circuit in
    let rows = c.args.player.now.rows in
    let text = c.args.text.now.items in
    let os = (goal.Watcher-dyn g (c.rows.watcher.vtable, c.rows.watcher.value)).stands c.rows.watcher.value in
    let ns = (goal.Watcher-dyn g (c.show.new.watcher.vtable, c.show.new.watcher.value)).stands c.show.new.watcher.value in
    let past : length rows ≤ c.rows.row = omega (arith, c.rows-test.false, c.requires.first.count) in
    on_ok _ _ c.push_line.result
    (λ line history played.
    let moments = played_moments netlist rows history in
    let stands = stands_all netlist rows c.rows.row c.rows.player c.show.new.self c.in_ok-show.field-0 c.rows.invariant.watches.said.played os ns c.rows.invariant.watches.said.behind past c.in_ok-show.ensures.steps c.in_ok-show.ensures.given
    c.rows.invariant.watches.stands_for c.requires.first.one history played in
    let said = said_all netlist rows c.rows.row c.rows.player c.show.new.self c.in_ok-show.field-0 text c.rows.text.items c.push_edges.new.text.items c.edges.result c.rows.invariant.watches.said past c.in_ok-show.ensures.steps c.edges.ensures.edges
    c.in_ok-push_edges.ensures c.requires.first.one history played in
    let said_line = (goal.Watcher-dyn g (c.args.watcher.now.vtable, c.args.watcher.now.value)).says c.args.watcher.now.value netlist moments ++ 10 ∷ [] in
    let before = c.push_edges.new.text.items in
    let kind = c.in_ok-show.ensures.same_kind ∙ c.rows.invariant.kind in
    line netlist moments stands
    ∙ (append_assoc before _ (10 ∷ [])
    ∙ (ap (λ says. before ++ (says netlist moments ++ 10 ∷ [])) kind
    ∙ ap (λ first. first ++ said_line) said)))
    c.push_line.ensures
