use Rattle.std.proofs.Common.{◌≡◌, map, take}
use Rattle.cg_net.specs.Names.{net_name}
use Rattle.cg_stimulus.proofs.stimulus.names_at.Given as goal

abbrev pub invariant-loop-net : goal.invariant-loop-net
invariant-loop-net l = l.names ≡ map (net_name l.netlist.names) (take l.net-index l.nets)
