use Rattle.std.proofs.Common.{◌≡◌, ◌||◌, ℕ, Bool, map, take}
use Rattle.cg_net.specs.NetSets.{is_in}
use Rattle.cg_claim_reach.proofs.spread.find_outputs.Given as goal

abbrev pub invariant-loop-place : goal.invariant-loop-place
invariant-loop-place l = (y : ℕ) → is_in l.found y ≡ (is_in l.initial.found y || is_in (map (λ (o : ℕ × Bool). o.0) (take l.place l.outputs)) y)
