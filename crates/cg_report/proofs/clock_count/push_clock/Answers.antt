use Rattle.std.proofs.Common.{◌∙◌, sym}
use Rattle.cg_report.proofs.ClockCounting.{clock_is_net}
use Rattle.cg_report.proofs.clock_count.push_clock.Goals as goal

pub push_net-requires-clause-net : goal.push_net-requires-clause-net
push_net-requires-clause-net c = clock_is_net c.args.netlist.now c.nets-nets.ensures.netlist.well_formed c.in-Some.net (sym c.clock.ensures ∙ c.in-Some.is)
