use Rattle.cg_edge.proofs.Chained.{clocks_shown}
use Rattle.cg_edge.proofs.clock_nets.drive.Goals as goal

pub returns-clause-clocked : goal.returns-clause-clocked
returns-clause-clocked c =
    (clocks_shown c.args.netlist.now c.requires.netlist.well_formed c.args.chain.now c.requires.chain c.args.latches.now c.args.clock c.args.nets.now c.put_clock.new.nets c.drive_gaters.new.nets c.requires.nets c.put_clock.ensures c.drive_gaters.ensures.same c.drive_gaters.ensures.driven).0

pub returns-clause-same : goal.returns-clause-same
returns-clause-same c =
    (clocks_shown c.args.netlist.now c.requires.netlist.well_formed c.args.chain.now c.requires.chain c.args.latches.now c.args.clock c.args.nets.now c.put_clock.new.nets c.drive_gaters.new.nets c.requires.nets c.put_clock.ensures c.drive_gaters.ensures.same c.drive_gaters.ensures.driven).1
