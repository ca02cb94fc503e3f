use Rattle.std.proofs.Common.{◌≡◌, [], ◌++◌, not, take}
use Rattle.std.specs.List.{filter}
use Rattle.cg_net.specs.NetSets.{is_in}
use Rattle.cg_claim_reach.proofs.sources.outside.Given as goal

abbrev pub invariant-loop-reg : goal.invariant-loop-reg
invariant-loop-reg l = l.some.items ≡ [] ++ filter (λ r. not (is_in l.set.keys r)) (take l.reg-index l.regs)
