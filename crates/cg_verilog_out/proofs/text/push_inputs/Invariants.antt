use Rattle.std.proofs.Common.{◌≡◌, ◌++◌, drop}
use Rattle.std.specs.List.{flat_map}
use Rattle.cg_verilog_out.specs.Writing.{input_line}
use Rattle.cg_verilog_out.proofs.text.push_inputs.Given as goal

abbrev pub invariant-nets : goal.invariant-nets
invariant-nets l = l.out.items ++ flat_map (input_line l.netlist.names) (drop l.net-index l.nets) ≡ l.fn.out.items ++ flat_map (input_line l.netlist.names) l.nets
