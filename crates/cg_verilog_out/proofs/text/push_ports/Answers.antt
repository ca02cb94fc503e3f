use Rattle.cg_verilog_out.proofs.WithinNetlist.{nets_both, output_nets}
use Rattle.cg_verilog_out.proofs.text.push_ports.Goals as goal

pub push_module-requires : goal.push_module-requires
push_module-requires c =
    rw (c.deref.ensures.value, c.in_ok-extend_from_slice.ensures.items, c.in_ok-ports.ensures.items, c.outputs.ensures)
    (nets_both c.args.netlist.now c.args.inputs.now c.args.netlist.now.outputs c.requires.inputs (output_nets c.args.netlist.now c.requires.netlist))
