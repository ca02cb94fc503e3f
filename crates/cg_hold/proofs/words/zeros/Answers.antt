use Rattle.std.proofs.Common.{false, sym, ◌∙◌, ap}
use Rattle.cg_hold.proofs.Cycled.{plain_zeros}
use Rattle.cg_hold.proofs.words.zeros.Goals as goal

pub returns-else-literal : goal.returns-else-literal
returns-else-literal c =
    plain_zeros c.args.nets.now c.args.literal c.number.result c.inverse.result
    (sym c.literal.view_is ∙ (ap (λ b. (c.literal.inside.net, b)) c.if-literal.false ∙ ap (λ n. (n, false)) (sym c.number.ensures.number)))
    c.inverse.ensures
