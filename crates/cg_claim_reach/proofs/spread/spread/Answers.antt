use Rattle.std.proofs.Common.{arith}
use Rattle.cg_claim_reach.proofs.Leading.{spreading_done, spreading_first, spreading_more}
use Rattle.cg_claim_reach.proofs.spread.spread.Goals as goal

pub loop-next-init : goal.loop-next-init
loop-next-init c = spreading_first c.args.machine.now c.netlist-netlist.ensures.machine c.args.regs.now c.args.found.now c.find_shown.new.found c.requires.empty c.in_ok-find_shown.ensures

pub loop-next-preserved : goal.loop-next-preserved
loop-next-preserved c =
    spreading_more c.args.machine.now c.netlist-netlist.ensures.machine c.args.regs.now c.loop-next.found c.lead_on.new.found c.of.result.now c.args.readers.now c.loop-next.next c.net-net.result c.net-net.ensures (omega (arith, c.loop-next-test.true, c.len.ensures))
    c.requires.readers c.of.ensures c.in_ok-lead_on.ensures c.loop-next.invariant

pub returns : goal.returns
returns c = spreading_done c.args.machine.now c.netlist-netlist.ensures.machine c.args.regs.now c.loop-next.found c.loop-next.next (omega (arith, c.loop-next-test.false, c.len.ensures)) c.loop-next.invariant
