use Rattle.std.proofs.Common.{◌≡◌, ◌++◌, map, take}
use Rattle.cg_claim.specs.declared.name.ClaimName.TheVariants.{Output}
use Rattle.cg_claim_reach.proofs.targets.push_outputs.Given as goal

abbrev pub invariant-loop-output : goal.invariant-loop-output
invariant-loop-output l = l.names.items ≡ l.initial.names.items ++ map Output (take l.output-index l.outputs)
