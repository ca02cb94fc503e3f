use Rattle.cg_netlist_parts.proofs.part_laws.writable_is_said_by_lines.Goals as goal
use Rattle.cg_netlist_parts.proofs.SaidIsWritable.{said_is_writable}
use Rattle.cg_netlist_parts.proofs.WritableIsSaid.{line_parts_are, line_parts_say, line_parts_taken}

pub returns-clause-said : goal.returns-clause-said
returns-clause-said c = λ library netlist is. (line_parts_taken library netlist is, line_parts_are library netlist is, line_parts_say library netlist is)

pub returns-clause-writable : goal.returns-clause-writable
returns-clause-writable c = λ library model parts netlist taken lines says. said_is_writable library model parts netlist taken lines says
