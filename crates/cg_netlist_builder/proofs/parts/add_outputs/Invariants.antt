use Rattle.std.proofs.Common.{◌≡◌, ◌++◌, map, take}
use Rattle.cg_netlist_builder.proofs.parts.add_outputs.Given as goal

abbrev pub invariant-loop-output : goal.invariant-loop-output
invariant-loop-output l = l.nets.items ≡ l.fn.nets.items ++ map (λ output. output.0) (take l.output-index l.outputs)
