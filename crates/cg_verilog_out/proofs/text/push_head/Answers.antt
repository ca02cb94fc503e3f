use Rattle.cg_verilog_out.proofs.WithinNetlist.{all_input_nets, output_nets}
use Rattle.cg_verilog_out.proofs.text.push_head.Goals as goal

pub push_ports-requires-clause-inputs : goal.push_ports-requires-clause-inputs
push_ports-requires-clause-inputs c = rw (c.deref.ensures.value, c.in_ok-inputs.ensures) (all_input_nets c.args.netlist.now c.requires)

pub push_inputs-requires : goal.push_inputs-requires
push_inputs-requires c = rw (c.deref-2.ensures.value, c.in_ok-inputs.ensures) (all_input_nets c.args.netlist.now c.requires)

pub push_outputs-requires : goal.push_outputs-requires
push_outputs-requires c = rw c.outputs.ensures (output_nets c.args.netlist.now c.requires)
