use Rattle.std.proofs.Common.{◌≡◌, ◌++◌, map, take}
use Rattle.cg_claim_reach.specs.Leaves.{input_leaf}
use Rattle.cg_claim_reach.proofs.leaves.push_inputs.Given as goal

abbrev pub invariant-loop-net : goal.invariant-loop-net
invariant-loop-net l = l.leaves.items ≡ l.initial.leaves.items ++ map (input_leaf l.copy) (take l.net-index l.inputs)
