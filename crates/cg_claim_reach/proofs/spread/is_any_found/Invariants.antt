use Rattle.std.proofs.Common.{◌≡◌, take}
use Rattle.std.specs.List.{list_any}
use Rattle.cg_net.specs.NetSets.{is_in}
use Rattle.cg_claim_reach.proofs.spread.is_any_found.Given as goal

abbrev pub invariant-loop-net : goal.invariant-loop-net
invariant-loop-net l = l.any ≡ list_any (is_in l.found) (take l.net-index l.nets)
