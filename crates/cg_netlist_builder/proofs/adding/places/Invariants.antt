use Rattle.std.proofs.Common.{◌≡◌, map, take}
use Rattle.cg_netlist_builder.proofs.adding.places.Given as goal

abbrev pub invariant-loop-output : goal.invariant-loop-output
invariant-loop-output l = l.places.items ≡ map (λ output. output.1) (take l.output-index l.outputs)
