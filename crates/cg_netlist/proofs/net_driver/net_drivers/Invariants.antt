use Rattle.std.proofs.Common.{◌≡◌, ℕ, ◌<◌, take, length}
use Rattle.cg_netlist.specs.inner.Ranking.{entry}
use Rattle.cg_netlist.specs.Ranks.{driving_cell}
use Rattle.cg_netlist.proofs.net_driver.net_drivers.Given as goal

abbrev pub invariant-loop-i : goal.invariant-loop-i
invariant-loop-i l = record {
  fits : length l.drivers.items ≡ l.count;
  tells : (net : ℕ) → net < l.count → entry l.drivers.items net ≡ driving_cell (take l.i l.cells) net;
}
