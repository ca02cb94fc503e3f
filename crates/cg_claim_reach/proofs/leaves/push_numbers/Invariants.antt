use Rattle.std.proofs.Common.{◌≡◌, ◌++◌, take}
use Rattle.cg_claim_reach.proofs.leaves.push_numbers.Given as goal

abbrev pub invariant-loop-net : goal.invariant-loop-net
invariant-loop-net l = l.numbers.items ≡ l.initial.numbers.items ++ take l.net-index l.nets
