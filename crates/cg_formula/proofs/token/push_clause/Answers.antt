use Rattle.std.proofs.Common.{arith}
use Rattle.cg_formula.specs.DimacsText.{lit_word}
use Rattle.cg_formula.proofs.Pushed.{words_pushed}
use Rattle.cg_formula.proofs.token.push_clause.Goals as goal

pub returns : goal.returns
returns c =
    words_pushed lit_word c.args.text.now.items c.loop-lit.text.items c.push.new.self.items c.args.lits.now c.loop-lit.lit-index
    (omega arith)
    c.loop-lit.invariant c.in_ok-push.ensures.items
