use Rattle.cg_netlist_cone.proofs.ConeEdge.{netlist_wired}
use Rattle.cg_netlist_cone.proofs.cone.NetlistWiring.net_count.Goals as goal

pub returns-clause-wired : goal.returns-clause-wired
returns-clause-wired c = netlist_wired c.args.self.now c.nets.ensures.netlist
