use Rattle.std.proofs.Common.{◌<◌, length, arith, sym}
use Rattle.cg_blif.proofs.PinNets.{pin_net_cut, pin_net_none}
use Rattle.cg_blif.proofs.statement.pin_net.Goals as goal

pub returns-then-at-word : goal.returns-then-at-word
returns-then-at-word c = sym (pin_net_none c.args.word.now (λ k inside. c.first_at-at.ensures.before k (omega arith)))

pub returns : goal.returns
returns c =
    let inside : c.first_at-at.result < length c.args.word.now = omega (arith, c.first_at-at.ensures.within) in
    sym (pin_net_cut c.args.word.now c.first_at-at.result c.first_at-at.ensures.before inside (c.first_at-at.ensures.ends inside))
