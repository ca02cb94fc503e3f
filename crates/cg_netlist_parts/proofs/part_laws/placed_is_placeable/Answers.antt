use Rattle.cg_netlist_parts.proofs.part_laws.placed_is_placeable.Goals as goal
use Rattle.cg_netlist_parts.proofs.SaidIsWritable.{said_is_placeable}

pub returns : goal.returns
returns c = λ library model parts netlist taken placed says. said_is_placeable library model parts netlist taken placed says
