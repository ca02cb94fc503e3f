use Rattle.std.proofs.Common.{arith}
use Rattle.cg_verilog_out.specs.Writing.{flop_items}
use Rattle.cg_verilog_out.specs.inner.Numbering.{left}
use Rattle.cg_verilog_out.proofs.Lines.{writes_next}
use Rattle.cg_verilog_out.proofs.text.push_registers.Goals as goal

pub registers-preserved : goal.registers-preserved
registers-preserved c =
    writes_next (flop_items c.args.netlist.now.names) c.args.netlist.now.registers c.registers.number c.new.result c.args.out.now.items c.registers.out.items c.push_register.new.out.items (left c.args.labels.now) (left c.registers.labels) (left c.push_register.new.labels) (omega arith) c.new.ensures c.registers.invariant c.in_ok-push_register.ensures
