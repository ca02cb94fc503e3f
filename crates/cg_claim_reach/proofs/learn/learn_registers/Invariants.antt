use Rattle.std.proofs.Common.{◌≡◌, ◌<◌, ◌≤◌, ℕ, true}
use Rattle.cg_net.specs.NetSets.{is_in}
use Rattle.cg_claim.specs.Reach.{next_nets}
use Rattle.cg_claim_reach.specs.Fanout.{readers_at}
use Rattle.cg_claim_reach.specs.inner.Learning.{Keeps}
use Rattle.cg_claim_reach.proofs.learn.learn_registers.Given as goal

abbrev pub invariant-loop-number : goal.invariant-loop-number
invariant-loop-number l = record {
  kept : Keeps l.initial.readers l.readers;
  noted : (r y : ℕ) → l.first ≤ r → r < l.number → is_in (next_nets l.machine r) y ≡ true → is_in (readers_at l.readers y) r ≡ true;
}
