use Rattle.std.proofs.Common.{◌≡◌, ◌||◌, ◌&&◌, ℕ, nat_eq, take}
use Rattle.cg_net.specs.NetSets.{is_in}
use Rattle.cg_claim_reach.specs.Fanout.{readers_at}
use Rattle.cg_claim_reach.proofs.learn.learn_net.Given as goal

abbrev pub invariant-loop-reg : goal.invariant-loop-reg
invariant-loop-reg l = (y k : ℕ) → is_in (readers_at l.readers y) k ≡ (is_in (readers_at l.initial.readers y) k || (nat_eq y l.net && is_in (take l.reg-index l.regs) k))
