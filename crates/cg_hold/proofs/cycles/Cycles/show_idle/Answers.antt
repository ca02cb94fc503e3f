use Rattle.cg_hold.proofs.Cycled.{idle_seen}
use Rattle.cg_hold.proofs.cycles.Cycles.show_idle.Goals as goal

pub returns : goal.returns
returns c = λ shows. idle_seen c.args.machine.now c.netlist-netlist.ensures.machine c.args.self.now.cycles c.requires.cycles c.args.literal c.zeros.result c.zeros.ensures (c.has_one.ensures.0 shows)
