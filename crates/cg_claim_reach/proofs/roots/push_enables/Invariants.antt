use Rattle.std.proofs.Common.{◌≡◌, ◌++◌, map, take}
use Rattle.cg_machine.specs.Claims.{Literal}
use Rattle.cg_claim_reach.proofs.roots.push_enables.Given as goal

abbrev pub invariant-loop-k : goal.invariant-loop-k
invariant-loop-k l = l.roots.items ≡ l.initial.roots.items ++ map (λ (x : Literal). x.0) (take l.k l.enables)
