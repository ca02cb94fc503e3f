use Rattle.std.proofs.Common.{ℕ, ◌<◌, ◌≡◌, ◌&&◌, ◌||◌, false}
use Rattle.cg_net.specs.Marks.{is_marked}
use Rattle.cg_netlist_builder.proofs.finish.first_bad_gater.Given as goal

abbrev pub invariant-loop-net : goal.invariant-loop-net
invariant-loop-net l = (n : ℕ) → n < l.net → is_marked l.gated n && (is_marked l.used n || is_marked l.unreached n) ≡ false
