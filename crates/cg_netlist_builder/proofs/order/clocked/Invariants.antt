use Rattle.std.proofs.Common.{◌≡◌, map}
use Rattle.cg_netlist_builder.specs.inner.Numbers.{on_number}
use Rattle.cg_netlist_builder.proofs.order.clocked.Given as goal

abbrev pub invariant-loop-register : goal.invariant-loop-register
invariant-loop-register l = l.clocked.items ≡ map (on_number l.clock) l.yielded
