use Rattle.std.proofs.Common.{◌≡◌, ◌<◌, ◌+◌, ℕ, List, length, drop, subst, sym, ◌∙◌, ap, arith}
use Rattle.std.specs.List.{All}
use Rattle.cg_limit.specs.declared.TheConstants.{MOST_ROWS}
use Rattle.cg_report.specs.inner.ZeroCounting.{CountRows, PlaysRow}
use Rattle.cg_report.proofs.ZeroRows.{counts_all, counts_more, counts_none, few_of, most_of}
use Rattle.cg_report.proofs.RowOn.{has_row}
use Rattle.cg_report.proofs.PlayedOn.{take_front}
use Rattle.cg_report.proofs.zeros.row_zero_counts.Goals as goal

pub rows-init : goal.rows-init
rows-init c =
    counts_none c.args.netlist.now c.args.stimulus.now.rows c.in_ok-player.player c.in_ok-zeros.zeros.items (ap (λ s. s.circuit) c.in_ok-player.ensures.simulated) c.in_ok-player.ensures.rows
    c.in_ok-player.ensures.left c.in_ok-player.ensures.at c.in_ok-zeros.ensures

pub play_row-requires-clause-row : goal.play_row-requires-clause-row
play_row-requires-clause-row c =
    has_row c.args.netlist.now c.args.stimulus.now.rows c.rows._row c.rows.player c.rows.invariant.played c.rows.invariant.behind (omega (arith, c.rows-test.true, c.rows-row-end.ensures.count))

pub play_row-requires-clause-room : goal.play_row-requires-clause-room
play_row-requires-clause-room c =
    let P : List ℕ → Type 0 = λ zeros. All (λ n. n < MOST_ROWS) zeros in
    subst P (sym c.deref_mut.ensures.value)
    (few_of c.args.netlist.now c.args.stimulus.now.rows c.rows._row MOST_ROWS c.rows.player c.rows.zeros.items c.rows.invariant (omega (arith, c.rows-test.true, c.rows-row-end.ensures.count, c.rows-row-end.ensures.stimulus.few)))

pub rows-preserved : goal.rows-preserved
rows-preserved c =
    let netlist = c.args.netlist.now in
    let rows = c.args.stimulus.now.rows in
    let more = c.play_row.new.zeros in
    let Q : List ℕ → Type 0 = λ zeros. PlaysRow c.rows.player c.play_row.new.player zeros more in
    let P : List ℕ → Type 0 = λ zeros. CountRows netlist rows (c.rows._row + 1) c.play_row.new.player zeros in
    let long : length more ≡ c.rows.zeros.len = c.play_row.ensures.counted.long ∙ c.deref_mut.ensures.len in
    subst P (sym (take_front c.rows.zeros.len more (drop (length more) c.rows.zeros.items) long))
    (counts_more netlist rows c.rows._row c.rows.player c.play_row.new.player c.rows.zeros.items more c.rows.invariant (omega (arith, c.rows-test.true, c.rows-row-end.ensures.count)) (subst Q c.deref_mut.ensures.value c.play_row.ensures))

pub returns-clause-most : goal.returns-clause-most
returns-clause-most c =
    most_of c.args.netlist.now c.args.stimulus.now.rows c.rows._row (length c.args.stimulus.now.rows) c.rows.player c.rows.zeros.items c.rows.invariant (omega (arith, c.rows.auto._row-end, c.rows-row-end.ensures.count))

pub returns-clause-zeros : goal.returns-clause-zeros
returns-clause-zeros c =
    counts_all c.args.netlist.now c.args.stimulus.now.rows c.rows._row c.rows.player c.step.new.self c.step.result c.rows.zeros.items c.rows.invariant (omega (arith, c.rows-test.false, c.rows-row-end.ensures.count)) c.step.ensures.steps c.one_played_history.ensures.one
