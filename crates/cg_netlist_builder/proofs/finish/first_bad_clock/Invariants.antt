use Rattle.std.proofs.Common.{ℕ, ◌<◌, ◌≡◌, ◌&&◌, ◌||◌, not, false}
use Rattle.cg_net.specs.Marks.{is_marked}
use Rattle.cg_netlist_builder.specs.inner.FirstNet.{marked_before}
use Rattle.cg_netlist_builder.proofs.finish.first_bad_clock.Given as goal

abbrev pub invariant-loop-net : goal.invariant-loop-net
invariant-loop-net l = record {
  before : l.before ≡ marked_before l.clocks l.net;
  good : (n : ℕ) → n < l.net → is_marked l.clocks n && ((not (is_marked l.inputs n) || marked_before l.clocks n) || is_marked l.used n) ≡ false;
}
