use Rattle.std.proofs.Common.{◌+◌, sym, subst}
use Rattle.cg_hold.proofs.MovedInWords.{MovesTo, moves_more}
use Rattle.cg_hold.proofs.moves.move_words.Goals as goal

pub loop-k-preserved : goal.loop-k-preserved
loop-k-preserved c =
    subst (λ items. MovesTo c.args.machine.now c.args.state.now c.args.nets.now items (c.loop-k.k + 1)) (sym c.in_ok-push.ensures.items)
    (moves_more c.args.machine.now c.args.state.now c.args.nets.now c.loop-k.moves.items c.loop-k.k c.new.result c.next_word-next.result c.new.ensures c.next_word-next.ensures c.loop-k.invariant)
