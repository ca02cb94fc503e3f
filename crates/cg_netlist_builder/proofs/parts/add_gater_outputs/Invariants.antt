use Rattle.std.proofs.Common.{◌≡◌, ◌++◌, take}
use Rattle.cg_netlist.specs.Wiring.{driven_by_gaters}
use Rattle.cg_netlist_builder.proofs.parts.add_gater_outputs.Given as goal

abbrev pub invariant-loop-gater : goal.invariant-loop-gater
invariant-loop-gater l = l.nets.items ≡ l.fn.nets.items ++ driven_by_gaters (take l.gater-index l.gaters)
