use Rattle.std.proofs.Common.{subst, sym}
use Rattle.cg_verilog_text.specs.Laws.{ReadsBack}
use Rattle.cg_verilog_out.proofs.text.write_verilog.Goals as goal

pub returns-clause-says : goal.returns-clause-says
returns-clause-says c = λ library placeable. subst (ReadsBack library c.args.netlist.now) (sym c.in_ok-text.ensures) (c.text_reads_back.ensures library c.args.netlist.now placeable)
