use Rattle.std.proofs.Common.{arith}
use Rattle.cg_hold.proofs.Widths.{wide_shown}
use Rattle.cg_hold.proofs.trial.Trier.shows_wide.Goals as goal

pub returns : goal.returns
returns c = λ wide.
    let good = c.netlist-netlist.ensures.machine in
    let own = good.own_registers in
    wide_shown c.args.machine.now good c.args.reg (omega (arith, own, c.requires)) c.args.width (c.in_ok-more.ensures wide)
