use Rattle.cg_edge.proofs.InRuns.{AreBegun}
use Rattle.cg_edge.proofs.runs.runs.Given as goal

abbrev pub invariant-loop-k : goal.invariant-loop-k
invariant-loop-k l = AreBegun l.netlist.registers l.k l.runs.items
