use Rattle.cg_netlist.specs.View.{gater_seen}
use Rattle.cg_verilog_out.proofs.WithinNetlist.{gater_nets}
use Rattle.cg_verilog_out.proofs.part_items.push_gater.Goals as goal

pub gater_pins-requires : goal.gater_pins-requires
gater_pins-requires c = gater_nets c.args.netlist.now c.requires.netlist c.args.id (gater_seen c.gater-gater.result) c.gater-gater.ensures
