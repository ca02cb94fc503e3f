use Rattle.std.proofs.Common.{arith}
use Rattle.cg_verilog_out.specs.Writing.{cell_items}
use Rattle.cg_verilog_out.proofs.LookedAt.{parts_done, parts_fault, parts_next}
use Rattle.cg_verilog_out.proofs.refusals.check_cells.Goals as goal

pub returns-in-Err : goal.returns-in-Err
returns-in-Err c = parts_fault (cell_items c.args.netlist.now.names) c.args.netlist.now.cells c.cells.number c.new.result c.in-Err.fault (omega arith) c.new.ensures c.cells.invariant c.in-Err.ensures

pub cells-preserved : goal.cells-preserved
cells-preserved c = parts_next (cell_items c.args.netlist.now.names) c.args.netlist.now.cells c.cells.number c.new.result (omega arith) c.new.ensures c.cells.invariant c.in-Ok.ensures

pub returns : goal.returns
returns c = parts_done (cell_items c.args.netlist.now.names) c.args.netlist.now.cells c.cells.number (omega arith) c.cells.invariant
