use Rattle.cg_netlist_parts.proofs.part_laws.said_part_by_part.Goals as goal
use Rattle.cg_netlist_parts.proofs.SaidMore.{said_more}

pub returns : goal.returns
returns c = said_more
