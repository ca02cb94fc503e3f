use Rattle.std.proofs.Common.{◌≡◌, map, take}
use Rattle.cg_net.specs.Names.{net_name}
use Rattle.cg_netlist_telling.proofs.parts.NetlistNames.each.Given as goal

abbrev pub invariant-loop-net : goal.invariant-loop-net
invariant-loop-net l = map (λ name. name.now) l.names.items ≡ map (net_name l.self) (take l.net-index l.nets)
