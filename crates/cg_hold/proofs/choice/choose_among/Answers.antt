use Rattle.std.proofs.Common.{Result, arith, sym, subst}
use Rattle.cg_limit.specs.Answers.{OrNoMemory}
use Rattle.cg_netlist.specs.declared.fault.AddFault.{AddFault}
use Rattle.cg_netlist.specs.declared.fault.AddFault.TheVariants.{NoMemory}
use Rattle.cg_hold.specs.declared.choice.Choice.{Choice}
use Rattle.cg_hold.specs.inner.Choosing.{choice_by}
use Rattle.cg_hold.proofs.Room.{refused_all}
use Rattle.cg_hold.proofs.choice.choose_among.Goals as goal

pub start-requires : goal.start-requires
start-requires c = let own = c.netlist-netlist.ensures.machine.own_registers in let below = c.requires.look.own in omega (arith, own, below)

pub returns-in-Err : goal.returns-in-Err
returns-in-Err c =
    let look = c.args.look.now in
    let m = look.search.now.machine.now in
    let w = look.search.now.width in
    subst (λ (z : Result Choice AddFault). OrNoMemory NoMemory (λ (t : Choice). t) z (choice_by m w look.reg look.literals.now)) (sym c.refused.ensures)
    (refused_all m c.netlist-netlist.ensures.machine look.reg w look.literals.now c.requires.some c.requires.look.literals_of c.in-Err.fault c.in-Err.ensures.refused)
