use Rattle.cg_verilog_out.proofs.WholeText.{all_written}
use Rattle.cg_verilog_out.proofs.text.text.Goals as goal

pub returns : goal.returns
returns c = all_written c.args.netlist.now c.requires _ _ _ _ c.new-out.ensures.items c.in_ok-push_head.ensures c.in_ok-push_parts.ensures c.in_ok-extend_from_slice.ensures.items
