use Rattle.std.proofs.Common.{◌≡◌, not, take}
use Rattle.std.specs.List.{filter}
use Rattle.std.specs.Option.{option_to_list}
use Rattle.cg_net.specs.NetSets.{is_in}
use Rattle.cg_netlist.proofs.netlist.inputs_without.Given as goal

abbrev pub invariant-loop-net : goal.invariant-loop-net
invariant-loop-net l = l.nets.items ≡ filter (λ net. not (is_in (option_to_list l.clock) net)) (take l.net-index l.inputs)
