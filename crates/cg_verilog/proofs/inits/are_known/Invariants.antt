use Rattle.std.proofs.Common.{◌≡◌, drop}
use Rattle.std.specs.List.{list_all}
use Rattle.cg_net.specs.Names.{is_known}
use Rattle.cg_verilog.proofs.inits.are_known.Given as goal

abbrev pub invariant-names : goal.invariant-names
invariant-names l = list_all (is_known l.names) l.some ≡ list_all (is_known l.names) (drop l.number l.some)
