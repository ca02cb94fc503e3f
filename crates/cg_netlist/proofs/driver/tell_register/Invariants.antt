use Rattle.std.proofs.Common.{◌++◌, ◌+◌, drop, map}
use Rattle.std.specs.List.{flat_map}
use Rattle.cg_netlist.specs.Circuit.{shown_nets}
use Rattle.cg_netlist.specs.inner.Driving.{IsTold, behind_registers}
use Rattle.cg_netlist.proofs.driver.tell_register.Given as goal

abbrev pub invariant-loop-place : goal.invariant-loop-place
invariant-loop-place l = IsTold l.parts (map (λ output. output.0) (drop l.place l.outputs) ++ (flat_map shown_nets (drop (l.r + 1) l.parts.registers) ++ behind_registers l.parts)) l.drivers
