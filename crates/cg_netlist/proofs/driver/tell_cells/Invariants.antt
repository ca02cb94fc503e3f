use Rattle.std.proofs.Common.{◌++◌, drop, map}
use Rattle.cg_netlist.specs.inner.Driving.{IsTold, behind_cells}
use Rattle.cg_netlist.proofs.driver.tell_cells.Given as goal

abbrev pub invariant-loop-k : goal.invariant-loop-k
invariant-loop-k l = IsTold l.parts (map (λ cell. cell.output) (drop l.k l.parts.cells) ++ behind_cells l.parts) l.drivers
