use Rattle.std.proofs.Common.{◌≡◌, ◌∷◌, map, take}
use Rattle.cg_hint_laws.specs.declared.outcome.HintClaim.TheVariants.{Hold, Idle}
use Rattle.cg_hints.proofs.claims.claims_of.Given as goal

abbrev pub invariant-loop-reg : goal.invariant-loop-reg
invariant-loop-reg l = l.claims.items ≡ Idle ∷ map Hold (take l.reg-index l.regs)
