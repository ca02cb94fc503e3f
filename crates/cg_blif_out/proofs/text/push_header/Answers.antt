use Rattle.cg_blif_out.proofs.WithinNetlist.{input_nets, output_nets}
use Rattle.cg_blif_out.proofs.text.push_header.Goals as goal

pub words-requires-clause-nets : goal.words-requires-clause-nets
words-requires-clause-nets c = rw c.inputs.ensures (input_nets c.args.netlist.now c.requires)

pub words-requires-2-clause-nets : goal.words-requires-2-clause-nets
words-requires-2-clause-nets c = rw c.outputs.ensures (output_nets c.args.netlist.now c.requires)
