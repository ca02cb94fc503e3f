use Rattle.cg_stimulus.proofs.InputsNamed.{inputs_named}
use Rattle.cg_stimulus.proofs.read.inputs_have_names.Goals as goal

pub returns : goal.returns
returns c = inputs_named c.args.netlist.now c.nets.ensures.netlist
