use Rattle.std.proofs.Common.{arith}
use Rattle.cg_blif_out.specs.Writing.{cell_text}
use Rattle.cg_blif_out.proofs.WholeText.{parts_next}
use Rattle.cg_blif_out.proofs.text.push_cells.Goals as goal

pub cells-preserved : goal.cells-preserved
cells-preserved c = parts_next (cell_text c.args.netlist.now.names) c.args.netlist.now.cells c.cells.number c.new.result c.args.out.now.items c.cells.out.items c.push_cell.new.out.items (omega arith) c.new.ensures c.cells.invariant c.in_ok-push_cell.ensures
