use Rattle.std.proofs.Common.{◌≡◌, ℕ, ◌++◌, take}
use Rattle.std.specs.List.{flat_map}
use Rattle.cg_net.specs.NetSets.{is_in}
use Rattle.cg_claim.specs.Question.{Question}
use Rattle.cg_claim.specs.Reach.{origin_nets}
use Rattle.cg_claim_reach.proofs.roots.push_origins.Given as goal

abbrev pub invariant-loop-reg : goal.invariant-loop-reg
invariant-loop-reg l = (q : Question) → ((r : ℕ) → is_in q.follows r ≡ is_in l.follows.keys r) → l.roots.items ≡ l.initial.roots.items ++ flat_map (origin_nets l.machine q) (take l.reg-index l.states)
