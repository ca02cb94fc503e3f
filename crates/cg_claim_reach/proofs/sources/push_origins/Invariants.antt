use Rattle.std.proofs.Common.{◌≡◌, ℕ, ◌++◌, take}
use Rattle.std.specs.List.{filter}
use Rattle.cg_net.specs.NetSets.{is_in}
use Rattle.cg_claim.specs.Question.{Question}
use Rattle.cg_claim.specs.Reach.{origin_asks}
use Rattle.cg_claim_reach.proofs.sources.push_origins.Given as goal

abbrev pub invariant-loop-reg : goal.invariant-loop-reg
invariant-loop-reg l = (q : Question) → ((r : ℕ) → is_in q.follows r ≡ is_in l.follows.keys r) → l.numbers.items ≡ l.initial.numbers.items ++ filter (origin_asks l.machine q) (take l.reg-index l.states)
