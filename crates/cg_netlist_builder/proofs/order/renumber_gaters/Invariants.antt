use Rattle.std.proofs.Common.{◌≡◌}
use Rattle.cg_netlist_builder.specs.inner.Renumbering.{number_in}
use Rattle.cg_netlist.specs.Wiring.{map_gater}
use Rattle.cg_netlist_builder.proofs.InPlace.{changed_before}
use Rattle.cg_netlist_builder.proofs.order.renumber_gaters.Given as goal

abbrev pub invariant-loop-gater : goal.invariant-loop-gater
invariant-loop-gater l = l.gaters ≡ changed_before (map_gater (number_in l.places)) l.fn.gaters l.gater-index
