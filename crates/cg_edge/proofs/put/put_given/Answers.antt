use Rattle.std.proofs.Common.{length}
use Rattle.cg_edge.proofs.Marked.{marked_put}
use Rattle.cg_edge.proofs.put.put_given.Goals as goal

pub returns-clause-marked : goal.returns-clause-marked
returns-clause-marked c =
    marked_put c.args.netlist.now c.requires.netlist.well_formed c.args.readers.now (length c.args.marks.now) c.args.net c.args.bit c.args.nets.now c.put.new.nets c.args.marks.now c.put.new.marks
    c.requires.readers c.requires.count c.requires.given c.put.ensures.put c.put.ensures.nets c.requires.marked
