use Rattle.std.proofs.Common.{vec_len}
use Rattle.cg_unroll.specs.Sparse.{IsSparse}
use Rattle.cg_unroll.proofs.literals.Literals.clear.Given as goal

abbrev pub invariant-written : goal.invariant-written
invariant-written l = IsSparse l.self-inside.literals.items l.self-inside.written.items

abbrev pub decreases-written : goal.decreases-written
decreases-written l = vec_len l.self-inside.written
