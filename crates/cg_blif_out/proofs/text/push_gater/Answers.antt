use Rattle.cg_blif_out.proofs.WithinNetlist.{gater_nets}
use Rattle.cg_blif_out.proofs.text.push_gater.Goals as goal

pub gater_statement-requires : goal.gater_statement-requires
gater_statement-requires c = gater_nets c.args.netlist.now c.requires.netlist c.args.id _ c.gater-gater.ensures
