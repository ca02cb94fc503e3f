use Rattle.cg_netlist_parts.proofs.part_laws.one_netlist_said.Goals as goal
use Rattle.cg_netlist_parts.proofs.AtLeastOne.{says_made}
use Rattle.cg_netlist_parts.proofs.AtMostOne.{says_only}
use Rattle.cg_netlist_parts.proofs.NoneBeside.{faultless}

pub returns-clause-most : goal.returns-clause-most
returns-clause-most c = says_only

pub returns-clause-beside : goal.returns-clause-beside
returns-clause-beside c = faultless

pub returns-clause-least : goal.returns-clause-least
returns-clause-least c = says_made
