use Rattle.std.proofs.Common.{◌++◌, drop}
use Rattle.std.specs.List.{flat_map}
use Rattle.cg_netlist.specs.Circuit.{shown_nets}
use Rattle.cg_netlist.specs.inner.Driving.{IsTold, behind_registers}
use Rattle.cg_netlist.proofs.driver.tell_registers.Given as goal

abbrev pub invariant-loop-r : goal.invariant-loop-r
invariant-loop-r l = IsTold l.parts (flat_map shown_nets (drop l.r l.parts.registers) ++ behind_registers l.parts) l.drivers
