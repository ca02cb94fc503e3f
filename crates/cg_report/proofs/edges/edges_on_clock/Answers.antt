use Rattle.std.proofs.Common.{◌*◌, length, ap, sym, ◌∙◌}
use Rattle.cg_report.proofs.AllOnClock.{edges_without_gaters}
use Rattle.cg_report.proofs.edges.edges_on_clock.Goals as goal

pub returns : goal.returns
returns c history played =
    ap (λ n. n * c.registers.result) c.rows.ensures.count
    ∙ (ap (λ n. length c.args.stimulus.now.rows * n) c.registers.ensures.count
    ∙ sym (edges_without_gaters c.args.netlist.now c.args.stimulus.now.rows history c.registers.ensures.netlist.well_formed c.requires.none played))
