use Rattle.std.proofs.Common.{◌≡◌, ◌<◌, ◌≤◌, ◌*◌, ◌+◌, ℕ, List, drop, length, subst, sym, ◌∙◌, ap, arith}
use Rattle.std.specs.List.{All}
use Rattle.cg_limit.specs.declared.TheConstants.{MOST_ROWS}
use Rattle.cg_report.proofs.PlayedOn.{take_front}
use Rattle.cg_report.proofs.RowOn.{has_row}
use Rattle.cg_register_text.specs.inner.RiseCounting.{CountRises, CountsMoment, CountsRow}
use Rattle.cg_register_text.proofs.RisesOn.{few_rises, rises_all, rises_none, rises_row}
use Rattle.cg_register_text.proofs.rises.register_rises.Goals as goal

pub rows-init : goal.rows-init
rows-init c =
    rises_none c.args.netlist.now c.args.stimulus.now.rows c.in_ok-player.player c.in_ok-rises.rises.items (ap (λ s. s.circuit) c.in_ok-player.ensures.simulated) c.in_ok-player.ensures.rows
    c.in_ok-player.ensures.left c.in_ok-player.ensures.at c.in_ok-rises.ensures.zeros

pub play_row-requires-clause-row : goal.play_row-requires-clause-row
play_row-requires-clause-row c =
    has_row c.args.netlist.now c.args.stimulus.now.rows c.rows._row c.rows.player c.rows.invariant.played c.rows.invariant.behind (omega (arith, c.rows-test.true, c.rows-row-end.ensures.count))

pub play_row-requires-clause-room : goal.play_row-requires-clause-room
play_row-requires-clause-room c =
    let few = few_rises c.args.netlist.now c.args.stimulus.now.rows c.rows._row c.rows.player c.rows.rises.items c.rows.invariant in
    subst (All (λ n. n < 2 * MOST_ROWS)) (sym c.deref_mut.ensures.value)
    (λ k d within. let low = few k d within in omega (arith, low, c.rows-test.true, c.rows-row-end.ensures.count, c.rows-row-end.ensures.stimulus.few))

pub rows-preserved : goal.rows-preserved
rows-preserved c =
    let netlist = c.args.netlist.now in
    let rows = c.args.stimulus.now.rows in
    let more = c.play_row.new.rises in
    let Q : List ℕ → Type 0 = λ rises. CountsRow c.rows.player c.play_row.new.player rises more in
    let P : List ℕ → Type 0 = λ rises. CountRises netlist rows (c.rows._row + 1) c.play_row.new.player rises in
    let long : length more ≡ c.rows.rises.len = c.play_row.auto.rises ∙ c.deref_mut.ensures.len in
    subst P (sym (take_front c.rows.rises.len more (drop (length more) c.rows.rises.items) long))
    (rises_row netlist rows c.rows._row c.rows.player c.play_row.new.player c.rows.rises.items more c.rows.invariant (omega (arith, c.rows-test.true, c.rows-row-end.ensures.count)) (subst Q c.deref_mut.ensures.value c.play_row.ensures))

pub play_moment-requires-clause-room : goal.play_moment-requires-clause-room
play_moment-requires-clause-room c =
    let few = few_rises c.args.netlist.now c.args.stimulus.now.rows c.rows._row c.rows.player c.rows.rises.items c.rows.invariant in
    subst (All (λ n. n ≤ 2 * MOST_ROWS)) (sym c.deref_mut-2.ensures.value)
    (λ k d within. let low = few k d within in omega (arith, low, c.rows.auto._row-end, c.rows-row-end.ensures.count, c.rows-row-end.ensures.stimulus.few))

pub returns-clause-rises : goal.returns-clause-rises
returns-clause-rises c history is =
    let netlist = c.args.netlist.now in
    let rows = c.args.stimulus.now.rows in
    let more = c.play_moment.new.rises in
    let Q : List ℕ → Type 0 = λ rises. CountsMoment c.rows.player c.play_moment.new.player rises more in
    let long : length more ≡ c.rows.rises.len = c.play_moment.auto.rises ∙ c.deref_mut-2.ensures.len in
    take_front c.rows.rises.len more (drop (length more) c.rows.rises.items) long
    ∙ rises_all netlist rows c.rows._row c.rows.player c.play_moment.new.player c.rows.rises.items more c.rows.invariant (omega (arith, c.rows-test.false, c.rows-row-end.ensures.count)) (subst Q c.deref_mut-2.ensures.value c.play_moment.ensures) c.one_played_history.ensures.one history is
