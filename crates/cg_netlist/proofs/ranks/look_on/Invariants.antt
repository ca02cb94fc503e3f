use Rattle.std.proofs.Common.{◌≡◌, length, ◌-◌}
use Rattle.cg_netlist.specs.inner.Ranking.{HasLooked}
use Rattle.cg_netlist.proofs.ranks.look_on.Given as goal

abbrev pub invariant-loop-progress : goal.invariant-loop-progress
invariant-loop-progress l = record {
  cell : l.progress.cell ≡ l.fn.progress.cell;
  looked : HasLooked l.ranks l.above l.progress;
}

abbrev pub decreases-loop-progress : goal.decreases-loop-progress
decreases-loop-progress l = length l.above - l.progress.place
