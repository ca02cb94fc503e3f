use Rattle.std.proofs.Common.{◌++◌, drop, map}
use Rattle.cg_netlist.specs.inner.Driving.{IsTold, behind_gaters}
use Rattle.cg_netlist.proofs.driver.tell_gaters.Given as goal

abbrev pub invariant-loop-k : goal.invariant-loop-k
invariant-loop-k l = IsTold l.parts (map (λ gater. gater.output) (drop l.k l.parts.gaters) ++ behind_gaters l.parts) l.drivers
