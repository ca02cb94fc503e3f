use Rattle.std.proofs.Common.{◌≡◌, map, take}
use Rattle.cg_verilog.proofs.assign.lent.Given as goal

abbrev pub invariant-names : goal.invariant-names
invariant-names l = map (λ name. name.now) l.lent.items ≡ take l.number l.names
