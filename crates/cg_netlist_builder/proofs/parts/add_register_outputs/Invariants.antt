use Rattle.std.proofs.Common.{◌≡◌, ◌++◌, take}
use Rattle.cg_netlist.specs.Wiring.{driven_by_registers}
use Rattle.cg_netlist_builder.proofs.parts.add_register_outputs.Given as goal

abbrev pub invariant-loop-register : goal.invariant-loop-register
invariant-loop-register l = l.nets.items ≡ l.fn.nets.items ++ driven_by_registers (take l.register-index l.registers)
