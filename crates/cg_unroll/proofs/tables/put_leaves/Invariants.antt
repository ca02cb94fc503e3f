use Rattle.std.proofs.Common.{◌≤◌, length}
use Rattle.cg_cell.specs.Domain.{AreValid}
use Rattle.cg_aig.specs.Aig.{aig_ops}
use Rattle.cg_unroll.specs.Placing.{FillsLeaves, place_in}
use Rattle.cg_unroll.proofs.tables.put_leaves.Given as goal

abbrev pub invariant-loop-k : goal.invariant-loop-k
invariant-loop-k l = record { filled : FillsLeaves (place_in l.these.copy l.these.sources) l.leaves l.k l.literals; valid : AreValid aig_ops l.aig l.literals; long : l.places ≤ length l.literals }
