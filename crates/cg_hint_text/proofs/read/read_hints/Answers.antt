use Rattle.cg_hint_text.proofs.LinesSaid.{answered_said, said_answered}
use Rattle.cg_hint_text.proofs.read.read_hints.Goals as goal

pub returns-clause-found : goal.returns-clause-found
returns-clause-found c = answered_said c.args.netlist.now c.args.bytes.now c.read_text.result c.read_laws.ensures.said c.nets-nets.ensures.netlist c.read_text.ensures

pub returns-clause-only : goal.returns-clause-only
returns-clause-only c = said_answered c.args.netlist.now c.args.bytes.now c.read_text.result c.read_laws.ensures.said c.nets-nets.ensures.netlist c.read_text.ensures
