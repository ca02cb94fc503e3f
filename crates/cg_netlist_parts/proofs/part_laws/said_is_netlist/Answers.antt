use Rattle.cg_netlist_parts.proofs.part_laws.said_is_netlist.Goals as goal
use Rattle.cg_netlist_parts.proofs.SaidIsNetlist.{said_is_netlist, said_outputs_once}

pub returns : goal.returns
returns c = λ model parts netlist taken says. (said_is_netlist model parts netlist taken says, said_outputs_once model parts netlist taken says)
