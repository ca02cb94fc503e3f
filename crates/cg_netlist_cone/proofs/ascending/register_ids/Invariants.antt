use Rattle.std.proofs.Common.{◌≡◌, take}
use Rattle.cg_netlist_cone.proofs.ascending.register_ids.Given as goal

abbrev pub invariant-loop-number : goal.invariant-loop-number
invariant-loop-number l = l.registers ≡ take l.number-index l.number-items
