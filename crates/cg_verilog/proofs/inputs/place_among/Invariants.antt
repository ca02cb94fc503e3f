use Rattle.std.proofs.Common.{◌≡◌, false, map, take}
use Rattle.cg_net.specs.Names.{is_known}
use Rattle.cg_verilog.proofs.inputs.place_among.Given as goal

abbrev pub invariant-names : goal.invariant-names
invariant-names l = is_known (map (λ name. name.now) (take l.i l.names)) l.name ≡ false
