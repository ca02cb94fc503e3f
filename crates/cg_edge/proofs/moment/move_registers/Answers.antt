use Rattle.std.proofs.Common.{length, sym, ap, ◌∙◌}
use Rattle.cg_edge.proofs.Walk.{walk_long}
use Rattle.cg_edge.proofs.moment.move_registers.Goals as goal

pub put_registers-requires-clause-count : goal.put_registers-requires-clause-count
put_registers-requires-clause-count c = c.requires.marks ∙ (ap length c.requires.schedule.ordered ∙ sym (walk_long c.args.schedule.now.netlist.now c.requires.schedule.netlist.well_formed))
