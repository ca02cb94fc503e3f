use Rattle.std.proofs.Common.{take}
use Rattle.std.specs.List.{flat_map}
use Rattle.cg_verilog_out.specs.Writing.{Writes, flop_items}
use Rattle.cg_verilog_out.specs.inner.Numbering.{left}
use Rattle.cg_verilog_out.proofs.text.push_registers.Given as goal

abbrev pub invariant-registers : goal.invariant-registers
invariant-registers l = Writes (flat_map (flop_items l.netlist.names) (take l.number l.netlist.registers)) l.fn.out.items l.out.items (left l.fn.labels) (left l.labels)
