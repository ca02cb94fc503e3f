use Rattle.std.proofs.Common.{◌≡◌, map, take}
use Rattle.cg_claim.specs.declared.name.ClaimName.TheVariants.{Stable}
use Rattle.cg_plan.proofs.claims.stable_names.Given as goal

abbrev pub invariant-loop-reg : goal.invariant-loop-reg
invariant-loop-reg l = l.names.items ≡ map Stable (take l.reg-index l.regs)
