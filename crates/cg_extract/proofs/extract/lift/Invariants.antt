use Rattle.std.proofs.Common.{take}
use Rattle.cg_netlist.specs.Chains.{gater_order}
use Rattle.cg_extract.specs.inner.Taking.{IsSoFar}
use Rattle.cg_extract.proofs.extract.lift.Given as goal

abbrev pub invariant-loop-k : goal.invariant-loop-k
invariant-loop-k l = IsSoFar l.netlist l.initial.machine.prefix (take l.k (gater_order l.netlist.gaters)) l.machine l.enables.items
