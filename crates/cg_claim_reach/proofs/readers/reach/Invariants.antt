use Rattle.std.proofs.Common.{ℕ, ◌≡◌, vec_len}
use Rattle.cg_claim_reach.specs.Fanout.{readers_at}
use Rattle.cg_claim_reach.proofs.readers.reach.Given as goal

abbrev pub invariant-loop : goal.invariant-loop
invariant-loop l = (vec_len l.lists ≡ l.counter) × ((y : ℕ) → readers_at l.lists.items y ≡ readers_at l.fn.lists.items y)
