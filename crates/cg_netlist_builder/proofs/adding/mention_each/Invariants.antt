use Rattle.std.proofs.Common.{map, take}
use Rattle.cg_netlist_builder.specs.inner.Mentioned.{IsMentioned}
use Rattle.cg_netlist_builder.proofs.adding.mention_each.Given as goal

abbrev pub invariant-loop-name : goal.invariant-loop-name
invariant-loop-name l = IsMentioned l.fn.names l.names (map (λ name. name.now) (take l.name-index l.mentioned)) l.nets.items
