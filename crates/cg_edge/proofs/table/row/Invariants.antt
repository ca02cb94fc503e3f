use Rattle.std.proofs.Common.{◌≡◌, drop}
use Rattle.cg_netlist.specs.Moment.{values_at}
use Rattle.cg_edge.specs.inner.Flat.{row_of}
use Rattle.cg_edge.proofs.table.row.Given as goal

abbrev pub invariant-loop-place : goal.invariant-loop-place
invariant-loop-place l = l.row ≡ row_of (values_at l.nets (drop l.place l.inputs))
