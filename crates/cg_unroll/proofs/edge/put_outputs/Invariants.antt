use Rattle.std.proofs.Common.{take}
use Rattle.cg_unroll.specs.inner.Filling.{AgreesAt, IsValid, Puts}
use Rattle.cg_unroll.proofs.Filling.{firsts}
use Rattle.cg_unroll.proofs.edge.put_outputs.Given as goal

abbrev pub invariant-loop-k : goal.invariant-loop-k
invariant-loop-k l = Puts (AgreesAt l.outputs l.state) (IsValid l.state) (take l.k (firsts l.outputs)) l.initial.literals l.literals
