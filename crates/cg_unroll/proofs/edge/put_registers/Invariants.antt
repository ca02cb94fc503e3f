use Rattle.std.proofs.Common.{slice_index_or, take}
use Rattle.std.specs.List.{flat_map}
use Rattle.cg_cell.specs.Domain.{AreValid}
use Rattle.cg_aig.specs.Aig.{aig_ops}
use Rattle.cg_unroll.specs.inner.Filling.{AgreesWithAll, Puts, nets_shown}
use Rattle.cg_unroll.proofs.edge.put_registers.Given as goal

abbrev pub invariant-loop-k : goal.invariant-loop-k
invariant-loop-k l = Puts (AgreesWithAll l.machine (λ r. slice_index_or l.states r 0)) (λ s. AreValid aig_ops s l.states) (flat_map (nets_shown l.machine) (take l.k l.registers)) l.initial.literals l.literals
