use Rattle.std.proofs.Common.{◌≡◌, take}
use Rattle.cg_claim_reach.proofs.leaves.nets_of.Given as goal

abbrev pub invariant-loop-number : goal.invariant-loop-number
invariant-loop-number l = l.nets.items ≡ take l.number-index l.numbers
