use Rattle.std.proofs.Common.{◌≡◌, ◌<◌, ◌≤◌, ℕ, true, Some, slice_get}
use Rattle.cg_net.specs.NetSets.{is_in}
use Rattle.cg_claim_reach.specs.Fanout.{readers_at}
use Rattle.cg_claim_reach.specs.inner.Learning.{Keeps}
use Rattle.cg_claim_reach.proofs.learn.learn_outputs.Given as goal

abbrev pub invariant-loop-k : goal.invariant-loop-k
invariant-loop-k l = record {
  kept : Keeps l.initial.readers l.readers;
  noted : (k y : ℕ) → l.first ≤ k → k < l.k → slice_get l.machine.circuit.outputs k ≡ Some y → is_in (readers_at l.readers y) k ≡ true;
}
