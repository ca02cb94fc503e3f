use Rattle.std.proofs.Common.{◌≡◌, ◌++◌, take}
use Rattle.cg_claim_reach.proofs.sources.push_all.Given as goal

abbrev pub invariant-loop-reg : goal.invariant-loop-reg
invariant-loop-reg l = l.numbers.items ≡ l.initial.numbers.items ++ take l.reg-index l.regs
