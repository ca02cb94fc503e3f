use Rattle.std.proofs.Common.{length, arith}
use Rattle.cg_netlist.specs.View.{gater_seen}
use Rattle.cg_edge.proofs.Facts.{gater_clock, gater_output}
use Rattle.cg_edge.proofs.clock_nets.drive_gater.Goals as goal

pub bounds-nets-number : goal.bounds-nets-number
bounds-nets-number c = let below = gater_clock c.args.netlist.now c.requires.netlist.well_formed c.args.id (gater_seen c.gater-gater.result) c.gater-gater.ensures (length c.args.nets.now) c.requires.nets in omega (arith, below)

pub bounds-nets-number-2 : goal.bounds-nets-number-2
bounds-nets-number-2 c = let below = gater_output c.args.netlist.now c.requires.netlist.well_formed c.args.id (gater_seen c.gater-gater.result) c.gater-gater.ensures (length c.args.nets.now) c.requires.nets in omega (arith, below)
