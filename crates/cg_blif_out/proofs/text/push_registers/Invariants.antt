use Rattle.std.proofs.Common.{◌≡◌, ◌++◌, take}
use Rattle.std.specs.List.{flat_map}
use Rattle.cg_blif_out.specs.Writing.{register_text}
use Rattle.cg_blif_out.proofs.text.push_registers.Given as goal

abbrev pub invariant-registers : goal.invariant-registers
invariant-registers l = l.out.items ≡ l.fn.out.items ++ flat_map (register_text l.netlist.names) (take l.number l.netlist.registers)
