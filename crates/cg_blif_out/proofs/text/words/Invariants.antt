use Rattle.std.proofs.Common.{◌≡◌, map, take}
use Rattle.cg_net.specs.Names.{net_name}
use Rattle.cg_blif_out.proofs.text.words.Given as goal

abbrev pub invariant-nets : goal.invariant-nets
invariant-nets l = l.words.items ≡ map (net_name l.netlist.names) (take l.net-index l.nets)
