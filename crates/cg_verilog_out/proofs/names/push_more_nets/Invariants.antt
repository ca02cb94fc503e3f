use Rattle.std.proofs.Common.{◌≡◌, ◌++◌, drop, map}
use Rattle.cg_net.specs.Names.{net_name}
use Rattle.cg_verilog_out.specs.Pieces.{more_names}
use Rattle.cg_verilog_out.proofs.names.push_more_nets.Given as goal

abbrev pub invariant-nets : goal.invariant-nets
invariant-nets l = l.out.items ++ more_names (map (net_name l.netlist.names) (drop l.net-index l.nets)) ≡ l.fn.out.items ++ more_names (map (net_name l.netlist.names) l.nets)
