use Rattle.std.proofs.Common.{◌≡◌, ◌++◌, map, take}
use Rattle.cg_claim.specs.declared.name.ClaimName.TheVariants.{Next}
use Rattle.cg_claim_reach.proofs.targets.push_nexts.Given as goal

abbrev pub invariant-loop-register : goal.invariant-loop-register
invariant-loop-register l = l.names.items ≡ l.initial.names.items ++ map Next (take l.register-index l.registers)
