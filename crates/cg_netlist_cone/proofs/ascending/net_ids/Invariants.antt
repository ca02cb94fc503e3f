use Rattle.std.proofs.Common.{◌≡◌, take}
use Rattle.cg_netlist_cone.proofs.ascending.net_ids.Given as goal

abbrev pub invariant-loop-number : goal.invariant-loop-number
invariant-loop-number l = l.nets ≡ take l.number-index l.number-items
