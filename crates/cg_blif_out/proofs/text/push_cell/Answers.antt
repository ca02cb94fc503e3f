use Rattle.std.proofs.Common.{◌++◌, ap, ◌∙◌}
use Rattle.cg_netlist.specs.View.{cell_seen}
use Rattle.cg_text.specs.Written.{line_text}
use Rattle.cg_blif_text.specs.Canonical.{statement_line}
use Rattle.cg_blif_out.proofs.WholeText.{cell_pushed, on_ok}
use Rattle.cg_blif_out.proofs.WithinNetlist.{cell_nets, function_digit}
use Rattle.cg_blif_out.proofs.text.push_cell.Goals as goal

pub cell_statement-requires-clause-nets : goal.cell_statement-requires-clause-nets
cell_statement-requires-clause-nets c = cell_nets c.args.netlist.now c.requires.netlist c.args.id _ c.cell-cell.ensures

pub push_statement-requires : goal.push_statement-requires
push_statement-requires c = rw c.in_ok-statement.ensures (function_digit _ _ _)

pub returns : goal.returns
returns c = on_ok _ _ c.push_function_rows.result
    (cell_pushed c.args.netlist.now.names c.args.netlist.now.cells c.args.id (cell_seen c.cell-cell.result) c.args.out.now.items c.push_statement.new.out.items c.push_function_rows.new.out.items c.cell-cell.ensures
    (c.in_ok-push_statement.ensures ∙ ap (λ s. c.args.out.now.items ++ line_text (statement_line s)) c.in_ok-statement.ensures))
    c.push_function_rows.ensures
