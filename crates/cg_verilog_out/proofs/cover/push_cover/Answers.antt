use Rattle.std.proofs.Common.{◌++◌, ◌∙◌, ap}
use Rattle.cg_netlist.specs.View.{cell_seen}
use Rattle.cg_verilog_text.specs.Written.{item_line}
use Rattle.cg_verilog_out.proofs.CoverLines.{cover_item}
use Rattle.cg_verilog_out.proofs.OpenTermLemmas.{on_ok}
use Rattle.cg_verilog_out.proofs.cover.push_cover.Goals as goal

pub returns-clause-line : goal.returns-clause-line
returns-clause-line c =
    on_ok _ _ c.push_form.result
    (λ line. line ∙ ap (λ i. c.args.out.now.items ++ item_line i)
    (cover_item c.args.netlist.now (cell_seen c.args.cell.now) c.args.cover.now c.rows.result.now c.deref.result.now c.name.result.now c.on.result c.requires.netlist c.requires.nets.inputs c.name.ensures c.rows.ensures.rows
    (c.deref.ensures.value ∙ c.in_ok-terms.ensures.terms) c.on.ensures))
    c.push_form.ensures
