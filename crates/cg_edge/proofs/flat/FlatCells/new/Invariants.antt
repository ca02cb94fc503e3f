use Rattle.cg_edge.specs.inner.Flat.{AreLaid}
use Rattle.cg_edge.proofs.flat.FlatCells.new.Given as goal

abbrev pub invariant-loop-id : goal.invariant-loop-id
invariant-loop-id l = AreLaid l.netlist l.order l.id-index l.cells
