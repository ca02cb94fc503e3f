use Rattle.std.proofs.Common.{ℕ, ◌<◌, ◌≡◌, ◌&&◌, not, false}
use Rattle.cg_net.specs.Marks.{is_marked}
use Rattle.cg_netlist_builder.proofs.finish.first_undriven.Given as goal

abbrev pub invariant-loop-net : goal.invariant-loop-net
invariant-loop-net l = (n : ℕ) → n < l.net → is_marked l.used n && not (is_marked l.driven n) ≡ false
