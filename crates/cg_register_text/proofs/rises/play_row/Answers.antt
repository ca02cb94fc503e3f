use Rattle.std.proofs.Common.{◌≤◌, ◌*◌, subst, sym}
use Rattle.std.specs.List.{All}
use Rattle.cg_limit.specs.declared.TheConstants.{MOST_ROWS}
use Rattle.cg_register_text.proofs.RisesOn.{all_more, row_counts}
use Rattle.cg_register_text.proofs.rises.play_row.Goals as goal

pub play_moment-requires-2-clause-room : goal.play_moment-requires-2-clause-room
play_moment-requires-2-clause-room c =
    subst (All (λ n. n ≤ 2 * MOST_ROWS)) (sym c.play_moment.ensures.counts) (all_more (2 * MOST_ROWS) c.play_moment.new.player.simulated.rose c.args.rises.now c.requires.room)

pub returns : goal.returns
returns c = row_counts c.args.player.now c.play_moment.new.player c.play_moment-2.new.player c.args.rises.now c.play_moment.new.rises c.play_moment-2.new.rises c.play_moment.ensures c.play_moment-2.ensures
