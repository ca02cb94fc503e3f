use Rattle.std.proofs.Common.{arith}
use Rattle.cg_verilog_out.specs.Writing.{gater_items}
use Rattle.cg_verilog_out.specs.inner.Numbering.{left}
use Rattle.cg_verilog_out.proofs.Lines.{writes_next}
use Rattle.cg_verilog_out.proofs.text.push_gaters.Goals as goal

pub gaters-preserved : goal.gaters-preserved
gaters-preserved c =
    writes_next (gater_items c.args.netlist.now.names) c.args.netlist.now.gaters c.gaters.number c.new.result c.args.out.now.items c.gaters.out.items c.push_gater.new.out.items (left c.args.labels.now) (left c.gaters.labels) (left c.push_gater.new.labels) (omega arith) c.new.ensures c.gaters.invariant c.in_ok-push_gater.ensures
