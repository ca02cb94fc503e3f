use Rattle.cg_netlist.specs.View.{cell_seen}
use Rattle.cg_verilog_out.proofs.WithinNetlist.{cell_nets}
use Rattle.cg_verilog_out.proofs.refusals.check_cell.Goals as goal

pub check_logic-requires : goal.check_logic-requires
check_logic-requires c = cell_nets c.args.netlist.now c.requires.netlist c.args.id (cell_seen c.cell-cell.result) c.cell-cell.ensures
