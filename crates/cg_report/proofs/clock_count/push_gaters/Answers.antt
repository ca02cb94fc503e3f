use Rattle.std.proofs.Common.{◌∙◌, ap, sym, slice_get}
use Rattle.cg_netlist.specs.View.{gater_seen}
use Rattle.cg_report.proofs.ClockCounting.{gater_is_net, gaters_go}
use Rattle.cg_report.proofs.clock_count.push_gaters.Goals as goal

pub push_net-requires-clause-net : goal.push_net-requires-clause-net
push_net-requires-clause-net c =
    let netlist = c.args.netlist.now in
    gater_is_net netlist c.gaters-gater-end.ensures.netlist.well_formed c.loop-gater.gater (gater_seen c.gater-net.result) (ap (slice_get netlist.gaters) (sym c.new.ensures) ∙ c.gater-net.ensures)

pub loop-gater-preserved : goal.loop-gater-preserved
loop-gater-preserved c =
    let netlist = c.args.netlist.now in
    gaters_go netlist c.args.clocks.now.items c.loop-gater.clocks.items c.push_net.new.clocks.items c.loop-gater.gater (gater_seen c.gater-net.result) (ap (slice_get netlist.gaters) (sym c.new.ensures) ∙ c.gater-net.ensures)
    c.loop-gater.invariant c.in_ok-push_net.ensures
