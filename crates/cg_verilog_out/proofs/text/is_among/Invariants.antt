use Rattle.std.proofs.Common.{◌≡◌, drop}
use Rattle.cg_net.specs.NetSets.{is_in}
use Rattle.cg_verilog_out.proofs.text.is_among.Given as goal

abbrev pub invariant-nets : goal.invariant-nets
invariant-nets l = is_in (drop l.other-index l.nets) l.net ≡ is_in l.nets l.net
