use Rattle.std.proofs.Common.{◌≡◌, ◌++◌, take}
use Rattle.std.specs.List.{flat_map}
use Rattle.std.specs.Option.{option_to_list}
use Rattle.cg_netlist_builder.proofs.parts.add_register_clocks.Given as goal

abbrev pub invariant-loop-register : goal.invariant-loop-register
invariant-loop-register l = l.nets.items ≡ l.fn.nets.items ++ flat_map (λ register. option_to_list register.clock) (take l.register-index l.registers)
