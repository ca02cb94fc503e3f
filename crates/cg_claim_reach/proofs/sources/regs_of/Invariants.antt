use Rattle.std.proofs.Common.{◌≡◌, take}
use Rattle.cg_claim_reach.proofs.sources.regs_of.Given as goal

abbrev pub invariant-loop-number : goal.invariant-loop-number
invariant-loop-number l = l.regs.items ≡ take l.number-index l.numbers
