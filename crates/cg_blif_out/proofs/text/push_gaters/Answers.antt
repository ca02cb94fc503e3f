use Rattle.std.proofs.Common.{arith}
use Rattle.cg_blif_out.specs.Writing.{gater_text}
use Rattle.cg_blif_out.proofs.WholeText.{parts_next}
use Rattle.cg_blif_out.proofs.text.push_gaters.Goals as goal

pub gaters-preserved : goal.gaters-preserved
gaters-preserved c = parts_next (gater_text c.args.netlist.now.names) c.args.netlist.now.gaters c.gaters.number c.new.result c.args.out.now.items c.gaters.out.items c.push_gater.new.out.items (omega arith) c.new.ensures c.gaters.invariant c.in_ok-push_gater.ensures
