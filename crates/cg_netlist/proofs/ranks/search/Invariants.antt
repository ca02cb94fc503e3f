use Rattle.cg_netlist.specs.inner.Ranking.{HasVisited}
use Rattle.cg_netlist.proofs.ranks.search.Given as goal

abbrev pub invariant-loop-cell : goal.invariant-loop-cell
invariant-loop-cell l = HasVisited l.fan_in l.ranking l.cell
