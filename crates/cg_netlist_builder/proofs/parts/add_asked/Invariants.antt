use Rattle.std.proofs.Common.{◌≡◌, ◌++◌, take}
use Rattle.std.specs.List.{flat_map}
use Rattle.cg_netlist.specs.Circuit.{asked_nets}
use Rattle.cg_netlist_builder.proofs.parts.add_asked.Given as goal

abbrev pub invariant-loop-gater : goal.invariant-loop-gater
invariant-loop-gater l = l.nets.items ≡ l.fn.nets.items ++ flat_map (λ gater. asked_nets gater) (take l.gater-index l.gaters)
