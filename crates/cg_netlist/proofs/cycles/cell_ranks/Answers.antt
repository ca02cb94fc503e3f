use Rattle.std.proofs.Common.{length, ◌∙◌, ap}
use Rattle.cg_netlist.specs.inner.Ranking.{entry}
use Rattle.cg_netlist.proofs.Unranked.{is_graph_of}
use Rattle.cg_netlist.proofs.cycles.cell_ranks.Goals as goal

pub ranks-requires-clause-graph : goal.ranks-requires-clause-graph
ranks-requires-clause-graph c = is_graph_of c.args.count c.deref.result.now c.args.cells.now c.requires (ap length c.deref.ensures.value ∙ c.in_ok-drivers.ensures.fits) (λ net lt. ap (λ ds. entry ds net) c.deref.ensures.value ∙ c.in_ok-drivers.ensures.tells net lt)
