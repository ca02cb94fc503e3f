use Rattle.std.proofs.Common.{arith}
use Rattle.cg_register_text.proofs.RisesOn.{counted_all}
use Rattle.cg_register_text.proofs.rises.count_rises.Goals as goal

pub returns : goal.returns
returns c =
    let long = c.loop-register.invariant.long in
    counted_all c.args.rose.now c.args.rises.now c.loop-register.rises c.requires.registers long (λ k below. c.loop-register.invariant.done k (let past = c.loop-register-test.false in omega (arith, past, below, long)))
