use Rattle.std.proofs.Common.{◌≡◌, map, take}
use Rattle.cg_netlist_telling.specs.NamedParts.{placed_outputs}
use Rattle.cg_netlist_telling.proofs.parts.placed_outputs.Given as goal

abbrev pub invariant-loop-k : goal.invariant-loop-k
invariant-loop-k l = map (λ output. (output.0.now, output.1)) l.placed.items ≡ placed_outputs l.names (take l.k l.outputs) (take l.k l.pins)
