use Rattle.cg_report.proofs.ClockCounting.{all_clocks, clocks_are_nets}
use Rattle.cg_report.proofs.SaidRows.{on_ok}
use Rattle.cg_report.proofs.clock_count.ClockCountWatcher.begin.Goals as goal

pub returns-clause-begun : goal.returns-clause-begun
returns-clause-begun c =
    let netlist = c.args.netlist.now in
    on_ok _ _ c.push_gaters.result (λ pushed. (
      all_clocks netlist c.clear.new.self.items c.push_clock.new.clocks.items c.push_gaters.new.clocks.items c.clear.ensures.items c.in_ok-push_clock.ensures pushed,
      clocks_are_nets netlist c.nets-nets.ensures.netlist.well_formed,
    )) c.push_gaters.ensures
