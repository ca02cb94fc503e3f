use Rattle.std.proofs.Common.{◌≡◌, ℕ, ◌<◌, length}
use Rattle.cg_netlist_builder.specs.inner.Renumbering.{number_in}
use Rattle.cg_netlist_builder.proofs.OrderPlaces.{place_so_far}
use Rattle.cg_netlist_builder.proofs.order.places.Given as goal

abbrev pub invariant-loop-i : goal.invariant-loop-i
invariant-loop-i l = record {
  fits : length l.places.items ≡ l.count;
  tells : (net : ℕ) → net < l.count → number_in l.places.items net ≡ place_so_far l.order l.i net;
}
