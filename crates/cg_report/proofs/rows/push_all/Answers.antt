use Rattle.std.proofs.Common.{refl, ◌+◌, arith}
use Rattle.cg_report.proofs.RowOn.{has_row}
use Rattle.cg_report.proofs.SaidRows.{on_ok, said_all, said_more, said_none}
use Rattle.cg_report.proofs.rows.push_all.Goals as goal

pub rows-init : goal.rows-init
rows-init c =
    said_none c.args.player.now.simulated.circuit c.args.player.now.rows c.args.player.now c.args.text.now.items refl refl c.requires.left c.requires.at

pub push_row-requires : goal.push_row-requires
push_row-requires c =
    has_row c.args.player.now.simulated.circuit c.args.player.now.rows c.rows.row c.rows.player c.rows.invariant.played c.rows.invariant.behind (omega (arith, c.rows-test.true, c.requires.count))

pub rows-preserved : goal.rows-preserved
rows-preserved c =
    said_more c.args.player.now.simulated.circuit c.args.player.now.rows c.rows.row (c.rows.row + 1) c.rows.player c.push_row.new.player c.args.text.now.items c.rows.text.items c.push_row.new.text.items c.rows.invariant
    (omega (arith, c.rows-test.true, c.requires.count)) (omega arith) c.in_ok-push_row.ensures

pub returns : goal.returns
returns c =
    on_ok _ _ c.push_edges.result (λ is. said_all c.args.player.now.simulated.circuit c.args.player.now.rows c.rows.row c.rows.player c.step.new.self c.step.result c.args.text.now.items c.rows.text.items c.push_edges.new.text.items
    c.edges.result c.rows.invariant (omega (arith, c.rows-test.false, c.requires.count)) c.step.ensures.steps c.edges.ensures.edges is c.requires.one) c.push_edges.ensures
