use Rattle.std.proofs.Common.{◌≡◌, ◌++◌, take}
use Rattle.cg_claim_reach.proofs.roots.push_nets.Given as goal

abbrev pub invariant-loop-net : goal.invariant-loop-net
invariant-loop-net l = l.roots.items ≡ l.initial.roots.items ++ take l.net-index l.nets
