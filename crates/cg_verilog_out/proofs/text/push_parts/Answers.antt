use Rattle.cg_verilog_out.proofs.OpenTermLemmas.{on_ok}
use Rattle.cg_verilog_out.proofs.WholeText.{parts_written}
use Rattle.cg_verilog_out.proofs.text.push_parts.Goals as goal

pub returns : goal.returns
returns c = on_ok _ _ c.push_registers.result (λ last. parts_written c.args.netlist.now _ _ _ _ _ _ _ _ c.new-labels.ensures c.in_ok-push_cells.ensures c.in_ok-push_gaters.ensures last) c.push_registers.ensures
