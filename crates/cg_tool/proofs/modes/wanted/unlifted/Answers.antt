use Rattle.cg_netlist.specs.View.{gater_seen}
use Rattle.cg_blif_out.proofs.WithinNetlist.{gater_nets}
use Rattle.cg_tool.proofs.modes.wanted.unlifted.Goals as goal

pub name-name-requires : goal.name-name-requires
name-name-requires c = (gater_nets c.args.netlist c.gaters-gaters.ensures.netlist c.in-Some.gater (gater_seen c.gater-output.result) c.gater-output.ensures).output
