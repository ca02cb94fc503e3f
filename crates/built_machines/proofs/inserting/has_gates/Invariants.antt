use Rattle.std.proofs.Common.{take}
use Rattle.built_machines.specs.Cells.{HaveCells}
use Rattle.built_machines.proofs.inserting.has_gates.Given as goal

abbrev pub invariant-loop-k : goal.invariant-loop-k
invariant-loop-k l = HaveCells l.library (take l.k l.machine.gates)
