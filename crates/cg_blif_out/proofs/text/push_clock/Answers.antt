use Rattle.std.proofs.Common.{sym}
use Rattle.cg_blif_out.proofs.WithinNetlist.{clock_net}
use Rattle.cg_blif_out.proofs.text.push_clock.Goals as goal

pub word-requires-clause-net : goal.word-requires-clause-net
word-requires-clause-net c = clock_net c.args.netlist.now c.requires c.in-Some.clock (sym c.in-Some.ensures)
