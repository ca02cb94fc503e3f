use Rattle.std.proofs.Common.{◌≡◌, ◌++◌, map, take}
use Rattle.cg_netlist_builder.proofs.parts.add_gater_clocks.Given as goal

abbrev pub invariant-loop-gater : goal.invariant-loop-gater
invariant-loop-gater l = l.nets.items ≡ l.fn.nets.items ++ map (λ gater. gater.clock) (take l.gater-index l.gaters)
