use Rattle.std.proofs.Common.{arith}
use Rattle.cg_blif_out.specs.Writing.{register_text}
use Rattle.cg_blif_out.proofs.WholeText.{parts_next}
use Rattle.cg_blif_out.proofs.text.push_registers.Goals as goal

pub registers-preserved : goal.registers-preserved
registers-preserved c = parts_next (register_text c.args.netlist.now.names) c.args.netlist.now.registers c.registers.number c.new.result c.args.out.now.items c.registers.out.items c.push_register.new.out.items (omega arith) c.new.ensures c.registers.invariant c.in_ok-push_register.ensures
