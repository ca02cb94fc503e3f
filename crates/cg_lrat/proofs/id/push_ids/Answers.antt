use Rattle.std.proofs.Common.{arith}
use Rattle.std.specs.Fmt.{decimal}
use Rattle.cg_formula.proofs.Pushed.{words_pushed}
use Rattle.cg_lrat.proofs.id.push_ids.Goals as goal

pub returns : goal.returns
returns c =
    words_pushed decimal c.args.text.now.items c.loop-id.text.items c.push.new.self.items c.args.ids.now c.loop-id.id-index (omega arith)
    c.loop-id.invariant c.in_ok-push.ensures.items
