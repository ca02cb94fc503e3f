use Rattle.cg_edge.specs.inner.Wires.{AreWires}
use Rattle.cg_edge.proofs.wire.wires.Given as goal

abbrev pub invariant-loop-k : goal.invariant-loop-k
invariant-loop-k l = AreWires l.netlist.registers l.k l.wires.items
