use Rattle.std.proofs.Common.{◌≡◌}
use Rattle.cg_netlist.specs.Wiring.{map_register}
use Rattle.cg_netlist_builder.specs.inner.Renumbering.{number_in}
use Rattle.cg_netlist_builder.proofs.InPlace.{changed_before}
use Rattle.cg_netlist_builder.proofs.order.renumber_registers.Given as goal

abbrev pub invariant-loop-register : goal.invariant-loop-register
invariant-loop-register l = l.registers ≡ changed_before (map_register (number_in l.places)) l.fn.registers l.register-index
