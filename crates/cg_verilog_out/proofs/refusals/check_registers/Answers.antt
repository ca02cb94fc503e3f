use Rattle.std.proofs.Common.{arith}
use Rattle.cg_verilog_out.specs.Writing.{flop_items}
use Rattle.cg_verilog_out.proofs.LookedAt.{parts_done, parts_fault, parts_next}
use Rattle.cg_verilog_out.proofs.refusals.check_registers.Goals as goal

pub returns-in-Err : goal.returns-in-Err
returns-in-Err c = parts_fault (flop_items c.args.netlist.now.names) c.args.netlist.now.registers c.registers.number c.new.result c.in-Err.fault (omega arith) c.new.ensures c.registers.invariant c.in-Err.ensures

pub registers-preserved : goal.registers-preserved
registers-preserved c = parts_next (flop_items c.args.netlist.now.names) c.args.netlist.now.registers c.registers.number c.new.result (omega arith) c.new.ensures c.registers.invariant c.in-Ok.ensures

pub returns : goal.returns
returns c = parts_done (flop_items c.args.netlist.now.names) c.args.netlist.now.registers c.registers.number (omega arith) c.registers.invariant
