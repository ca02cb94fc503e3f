use Rattle.std.proofs.Common.{arith}
use Rattle.cg_verilog_out.specs.Writing.{gater_items}
use Rattle.cg_verilog_out.proofs.LookedAt.{parts_done, parts_fault, parts_next}
use Rattle.cg_verilog_out.proofs.refusals.check_gaters.Goals as goal

pub returns-in-Err : goal.returns-in-Err
returns-in-Err c = parts_fault (gater_items c.args.netlist.now.names) c.args.netlist.now.gaters c.gaters.number c.new.result c.in-Err.fault (omega arith) c.new.ensures c.gaters.invariant c.in-Err.ensures

pub gaters-preserved : goal.gaters-preserved
gaters-preserved c = parts_next (gater_items c.args.netlist.now.names) c.args.netlist.now.gaters c.gaters.number c.new.result (omega arith) c.new.ensures c.gaters.invariant c.in-Ok.ensures

pub returns : goal.returns
returns c = parts_done (gater_items c.args.netlist.now.names) c.args.netlist.now.gaters c.gaters.number (omega arith) c.gaters.invariant
