use Rattle.std.proofs.Common.{arith}
use Rattle.cg_verilog_out.specs.Writing.{cell_items}
use Rattle.cg_verilog_out.specs.inner.Numbering.{left}
use Rattle.cg_verilog_out.proofs.Lines.{writes_next}
use Rattle.cg_verilog_out.proofs.text.push_cells.Goals as goal

pub cells-preserved : goal.cells-preserved
cells-preserved c = (
  writes_next (cell_items c.args.netlist.now.names) c.args.netlist.now.cells c.cells.number c.new.result c.args.out.now.items c.cells.out.items c.push_cell.new.out.items (left c.args.labels.now) (left c.cells.labels) (left c.push_cell.new.labels) (omega arith) c.new.ensures c.cells.invariant.0 c.in_ok-push_cell.ensures.lines,
  c.in_ok-push_cell.ensures.none,
)
