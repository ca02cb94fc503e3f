use Rattle.std.proofs.Common.{◌≡◌, ◌++◌, take}
use Rattle.std.specs.List.{flat_map}
use Rattle.cg_blif_out.specs.Writing.{gater_text}
use Rattle.cg_blif_out.proofs.text.push_gaters.Given as goal

abbrev pub invariant-gaters : goal.invariant-gaters
invariant-gaters l = l.out.items ≡ l.fn.out.items ++ flat_map (gater_text l.netlist.names) (take l.number l.netlist.gaters)
