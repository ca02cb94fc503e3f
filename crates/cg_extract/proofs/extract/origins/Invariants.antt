use Rattle.std.proofs.Common.{◌≡◌, take}
use Rattle.cg_extract.specs.Lifted.{origins}
use Rattle.cg_extract.proofs.extract.origins.Given as goal

abbrev pub invariant-loop-number : goal.invariant-loop-number
invariant-loop-number l = l.nets.items ≡ take l.number (origins l.netlist l.machine)
