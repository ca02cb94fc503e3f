use Rattle.std.proofs.Common.{◌≡◌, ◌++◌, ℕ, Bool, List, ap, [], subst, sym}
use Rattle.std.specs.Prelude.{IfOk}
use Rattle.std.specs.Result.{OnOk}
use Rattle.cg_netlist.specs.Circuit.{Circuit}
use Rattle.cg_netlist.specs.History.{Moment, edges}
use Rattle.cg_stimulus.specs.Played.{IsPlayed}
use Rattle.cg_report.specs.Shown.{Shown}
use Rattle.cg_report.specs.Watched.{watched_line}
use Rattle.cg_report.proofs.RowOn.{is_first, of_player}
use Rattle.cg_report.proofs.edges.watch_edges.Goals as goal

pub watch_all-requires-clause-first : goal.watch_all-requires-clause-first
watch_all-requires-clause-first g c =
    is_first c.args.netlist.now c.args.stimulus.now.rows c.in_ok-player.player c.rows.result (ap (λ s. s.circuit) c.in_ok-player.ensures.simulated) c.in_ok-player.ensures.rows c.in_ok-player.ensures.left c.in_ok-player.ensures.at
    c.rows.ensures.count c.one_played_history.ensures.one

pub watch_all-requires-clause-begun : goal.watch_all-requires-clause-begun
watch_all-requires-clause-begun g c =
    let S : Circuit → Type 0 = λ d. (goal.Watcher-dyn g (c.begin.new.watcher.vtable, c.begin.new.watcher.value)).stands c.begin.new.watcher.value d [] in
    subst S (sym (ap (λ s. s.circuit) c.in_ok-player.ensures.simulated)) c.in_ok-begin.ensures.begun

pub returns-clause-edges : goal.returns-clause-edges
returns-clause-edges g c =
    let P : Circuit → List (List Bool) → Type 0 = λ d rows. IfOk c.watch_all.result (λ count. (history : List Moment) → IsPlayed d rows history → count ≡ edges d history) in
    of_player P c.args.netlist.now c.in_ok-player.player.simulated.circuit c.args.stimulus.now.rows c.in_ok-player.player.rows (ap (λ s. s.circuit) c.in_ok-player.ensures.simulated) c.in_ok-player.ensures.rows c.watch_all.ensures.edges

pub returns-clause-said : goal.returns-clause-said
returns-clause-said g c =
    let text = c.args.text.now.items in
    let K : (Circuit → List Shown → List ℕ) → Circuit → List (List Bool) → Type 0 = λ says d rows. OnOk c.watch_all.result ((history : List Moment) → IsPlayed d rows history → c.watch_all.new.text.items ≡ text ++ watched_line says d rows history) in
    let P : Circuit → List (List Bool) → Type 0 = K ((goal.Watcher-dyn g (c.args.watcher.now.vtable, c.args.watcher.now.value)).says c.args.watcher.now.value) in
    let known = subst (λ says. K says c.in_ok-player.player.simulated.circuit c.in_ok-player.player.rows) c.in_ok-begin.ensures.same_kind c.watch_all.ensures.said in
    of_player P c.args.netlist.now c.in_ok-player.player.simulated.circuit c.args.stimulus.now.rows c.in_ok-player.player.rows (ap (λ s. s.circuit) c.in_ok-player.ensures.simulated) c.in_ok-player.ensures.rows known
