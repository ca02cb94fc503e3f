use Rattle.std.proofs.Common.{subst}
use Rattle.cg_netlist.specs.Netlist.{IsNetlist}
use Rattle.cg_machine.proofs.WalkPlaces.{machine_wired}
use Rattle.cg_machine.proofs.cone.MachineWiring.net_count.Goals as goal

pub returns-clause-wired : goal.returns-clause-wired
returns-clause-wired c = machine_wired c.args.self.now c.netlist-netlist.ensures.machine (subst IsNetlist c.netlist-netlist.ensures.netlist c.nets-nets.ensures.netlist)
