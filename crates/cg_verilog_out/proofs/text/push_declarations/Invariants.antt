use Rattle.std.proofs.Common.{◌≡◌, ◌++◌, take}
use Rattle.std.specs.List.{flat_map}
use Rattle.cg_verilog_out.specs.Writing.{declaration_lines}
use Rattle.cg_verilog_out.proofs.text.push_declarations.Given as goal

abbrev pub invariant-registers : goal.invariant-registers
invariant-registers l = l.out.items ≡ l.fn.out.items ++ flat_map (declaration_lines l.netlist.names) (take l.number l.netlist.registers)
