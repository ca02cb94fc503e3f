use Rattle.std.proofs.Common.{◌≡◌, ◌++◌, Bool, List, ap}
use Rattle.std.specs.Result.{OnOk}
use Rattle.cg_netlist.specs.Circuit.{Circuit}
use Rattle.cg_netlist.specs.History.{Moment}
use Rattle.cg_stimulus.specs.Played.{IsPlayed}
use Rattle.cg_report.specs.RowLines.{rows_text}
use Rattle.cg_report.proofs.RowOn.{is_first, of_player}
use Rattle.cg_report.proofs.rows.push_rows.Goals as goal

pub push_all-requires : goal.push_all-requires
push_all-requires c =
    is_first c.args.netlist.now c.args.stimulus.now.rows c.in_ok-player.player c.rows.result (ap (λ s. s.circuit) c.in_ok-player.ensures.simulated) c.in_ok-player.ensures.rows c.in_ok-player.ensures.left c.in_ok-player.ensures.at
    c.rows.ensures.count c.one_played_history.ensures.one

pub returns : goal.returns
returns c =
    let P : Circuit → List (List Bool) → Type 0 = λ d rows. OnOk c.push_all.result ((history : List Moment) → IsPlayed d rows history → c.push_all.new.text.items ≡ c.args.text.now.items ++ rows_text d history) in
    of_player P c.args.netlist.now c.in_ok-player.player.simulated.circuit c.args.stimulus.now.rows c.in_ok-player.player.rows (ap (λ s. s.circuit) c.in_ok-player.ensures.simulated) c.in_ok-player.ensures.rows c.push_all.ensures
