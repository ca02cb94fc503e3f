use Rattle.std.proofs.Common.{◌≡◌}
use Rattle.cg_netlist_builder.specs.inner.Renumbering.{number_in}
use Rattle.cg_netlist_builder.proofs.InPlace.{changed_before}
use Rattle.cg_netlist_builder.proofs.order.renumber.Given as goal

abbrev pub invariant-loop-net : goal.invariant-loop-net
invariant-loop-net l = l.nets ≡ changed_before (number_in l.places) l.fn.nets l.net-index
