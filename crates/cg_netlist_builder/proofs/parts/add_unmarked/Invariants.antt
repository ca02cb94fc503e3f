use Rattle.std.proofs.Common.{◌≡◌, ◌++◌, not, take}
use Rattle.std.specs.List.{filter}
use Rattle.cg_net.specs.Marks.{is_marked}
use Rattle.cg_netlist_builder.proofs.parts.add_unmarked.Given as goal

abbrev pub invariant-loop-net : goal.invariant-loop-net
invariant-loop-net l = l.nets.items ≡ l.fn.nets.items ++ filter (λ net. not (is_marked l.marks net)) (take l.net-index l.more)
