use Rattle.std.proofs.Common.{◌≡◌, length, take}
use Rattle.cg_netlist.specs.Circuit.{data_inputs}
use Rattle.cg_netlist.specs.Moment.{values_at}
use Rattle.cg_edge.specs.inner.Keeping.{AreMarked, SameBut, walk_of}
use Rattle.cg_edge.proofs.put.put_inputs.Given as goal

abbrev pub invariant-loop-k : goal.invariant-loop-k
invariant-loop-k l =
    (values_at l.nets (take l.k (data_inputs l.netlist)) ≡ take l.k l.inputs) × SameBut (data_inputs l.netlist) l.fn.nets l.nets × AreMarked (walk_of l.netlist) l.marks l.nets × (length l.marks ≡ length l.fn.marks)
