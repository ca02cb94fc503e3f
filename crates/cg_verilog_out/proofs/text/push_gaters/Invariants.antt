use Rattle.std.proofs.Common.{take}
use Rattle.std.specs.List.{flat_map}
use Rattle.cg_verilog_out.specs.Writing.{Writes, gater_items}
use Rattle.cg_verilog_out.specs.inner.Numbering.{left}
use Rattle.cg_verilog_out.proofs.text.push_gaters.Given as goal

abbrev pub invariant-gaters : goal.invariant-gaters
invariant-gaters l = Writes (flat_map (gater_items l.netlist.names) (take l.number l.netlist.gaters)) l.fn.out.items l.out.items (left l.fn.labels) (left l.labels)
