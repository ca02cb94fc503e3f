use Rattle.std.proofs.Common.{arith}
use Rattle.cg_verilog_out.specs.Writing.{declaration_lines}
use Rattle.cg_verilog_out.proofs.Lines.{text_next}
use Rattle.cg_verilog_out.proofs.text.push_declarations.Goals as goal

pub registers-preserved : goal.registers-preserved
registers-preserved c = text_next (declaration_lines c.args.netlist.now.names) c.args.netlist.now.registers c.registers.number c.new.result c.args.out.now.items c.registers.out.items c.push_declared.new.out.items (omega arith) c.new.ensures c.registers.invariant c.in_ok-push_declared.ensures
