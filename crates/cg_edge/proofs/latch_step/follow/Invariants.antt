use Rattle.cg_netlist.specs.History.{next_latch}
use Rattle.cg_netlist.specs.Moment.{zip_with}
use Rattle.cg_edge.specs.inner.Stepped.{IsWritten}
use Rattle.cg_edge.proofs.latch_step.follow.Given as goal

abbrev pub invariant-loop-k : goal.invariant-loop-k
invariant-loop-k l = IsWritten l.k l.fn.latches (zip_with (next_latch l.nets) l.netlist.gaters l.fn.latches) l.latches
