use Rattle.std.proofs.Common.{ap, length, subst}
use Rattle.cg_netlist.specs.View.{cell_seen, function_seen}
use Rattle.cg_netlist.specs.WellFormed.{IsOver}
use Rattle.cg_verilog_out.specs.inner.Numbering.{left}
use Rattle.cg_verilog_out.proofs.CoverLines.{cover_written}
use Rattle.cg_verilog_out.proofs.OpenTermLemmas.{on_ok}
use Rattle.cg_verilog_out.proofs.WithinNetlist.{cell_nets, cell_over}
use Rattle.cg_verilog_out.proofs.part_items.push_cell.Goals as goal

pub push_cover-requires-clause-nets : goal.push_cover-requires-clause-nets
push_cover-requires-clause-nets c = cell_nets c.args.netlist.now c.requires.netlist c.args.id (cell_seen c.cell-cell.result) c.cell-cell.ensures

pub push_cover-requires-clause-over : goal.push_cover-requires-clause-over
push_cover-requires-clause-over c =
    subst (λ f. IsOver (length c.cell-cell.result.inputs.now) f) (ap function_seen c.in-Cover.is) (cell_over c.args.netlist.now c.requires.netlist c.args.id (cell_seen c.cell-cell.result) c.cell-cell.ensures)

pub push_logic-requires : goal.push_logic-requires
push_logic-requires c = cell_nets c.args.netlist.now c.requires.netlist c.args.id (cell_seen c.cell-cell.result) c.cell-cell.ensures

pub returns-in-Cover-clause-lines : goal.returns-in-Cover-clause-lines
returns-in-Cover-clause-lines c =
    on_ok _ _ c.push_cover.result
    (λ line. cover_written c.args.netlist.now.names c.args.netlist.now.cells c.args.id (cell_seen c.cell-cell.result) c.in-Cover.cover.now c.args.out.now.items c.push_cover.new.out.items (left c.args.labels.now) c.cell-cell.ensures (ap function_seen c.in-Cover.is) line)
    c.push_cover.ensures.line
