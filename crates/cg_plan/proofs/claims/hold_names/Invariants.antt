use Rattle.std.proofs.Common.{◌≡◌, map, take}
use Rattle.cg_claim.specs.declared.name.ClaimName.TheVariants.{Hold}
use Rattle.cg_plan.proofs.claims.hold_names.Given as goal

abbrev pub invariant-loop-reg : goal.invariant-loop-reg
invariant-loop-reg l = l.names.items ≡ map Hold (take l.reg-index l.regs)
