use Rattle.std.proofs.Common.{◌≡◌, ◌||◌, ℕ, take}
use Rattle.cg_net.specs.NetSets.{is_in}
use Rattle.cg_claim_reach.specs.inner.Spreading.{is_shown}
use Rattle.cg_claim_reach.proofs.spread.find_shown.Given as goal

abbrev pub invariant-loop-reg : goal.invariant-loop-reg
invariant-loop-reg l = (y : ℕ) → is_in l.found y ≡ (is_in l.initial.found y || is_shown l.machine (take l.reg-index l.regs) y)
