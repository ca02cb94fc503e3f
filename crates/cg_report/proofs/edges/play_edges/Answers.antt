use Rattle.std.proofs.Common.{◌<◌, ◌∷◌, ◌++◌, [], length, ap, arith}
use Rattle.cg_report.proofs.RowOn.{behind_more, behind_none, has_row, left_after, pair_played, stepped}
use Rattle.cg_report.proofs.Watching.{edges_all}
use Rattle.cg_report.proofs.edges.play_edges.Goals as goal

pub rows-init : goal.rows-init
rows-init c =
    ([], behind_none c.args.netlist.now c.args.stimulus.now.rows c.in_ok-player.player (ap (λ s. s.circuit) c.in_ok-player.ensures.simulated) c.in_ok-player.ensures.rows c.in_ok-player.ensures.left c.in_ok-player.ensures.at)

pub rows-preserved : goal.rows-preserved
rows-preserved c =
    let netlist = c.args.netlist.now in
    let rows = c.args.stimulus.now.rows in
    let old = c.rows.player in
    let between = c.step.new.self in
    let new = c.step-in-rows.new.self in
    let below : c.rows._row < length rows = omega (arith, c.rows-test.true, c.rows-row-end.ensures.count) in
    let has = has_row netlist rows c.rows._row old c.rows.invariant.0 c.rows.invariant.1 below in
    let one = stepped c.step.result old between has.low (has.high ∷ has.later) has.is c.step.ensures.steps in
    let two = stepped c.step-in-rows.result between new has.high has.later (left_after old between has.low (has.high ∷ has.later) has.is one) c.step-in-rows.ensures.steps in
    (c.rows.invariant.0 ++ one.now ∷ two.now ∷ [], behind_more netlist rows c.rows._row old new c.rows.invariant.0 one.now two.now c.rows.invariant.1 below (pair_played old between new one two))

pub returns : goal.returns
returns c =
    edges_all c.args.netlist.now c.args.stimulus.now.rows c.rows._row c.rows.player c.step-2.new.self c.step-2.result c.rows.invariant.0 c.edges.result c.rows.invariant.1
    (omega (arith, c.rows-test.false, c.rows-row-end.ensures.count)) c.step-2.ensures.steps c.edges.ensures.edges c.one_played_history.ensures.one
