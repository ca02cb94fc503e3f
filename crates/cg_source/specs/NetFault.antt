-- Why the parts of a netlist are refused as a whole, in whatever form they are said.
use Rattle.std.specs.Prelude.{◌++◌, codes}
use Rattle.cg_netlist_parts.specs.declared.fault.NetFault.{NetFault}
use Rattle.cg_netlist_parts.specs.declared.fault.NetFault.TheVariants as net_faults
use Rattle.cg_run.specs.declared.refusal.Owner.TheVariants as owners
use Rattle.cg_run.specs.declared.refusal.Trouble.{Trouble}
use Rattle.cg_run.specs.declared.refusal.Trouble.TheVariants as troubles
use Rattle.cg_source.specs.Refused.{refused_for}

abbrev pub net_trouble : NetFault → Trouble
net_trouble (net_faults.TwoDrivers net) = refused_for owners.Netlist (codes "netlist: two drivers " ++ net)
net_trouble (net_faults.NoDriver net) = refused_for owners.Netlist (codes "netlist: no driver " ++ net)
net_trouble (net_faults.Cycle net) = refused_for owners.Netlist (codes "netlist: cycle " ++ net)
net_trouble (net_faults.ClockFault net) = refused_for owners.Netlist (codes "netlist: clock fault " ++ net)
net_trouble net_faults.NoClock = refused_for owners.Netlist (codes "netlist: no clock")
net_trouble net_faults.NoMemory = troubles.NoMemory
