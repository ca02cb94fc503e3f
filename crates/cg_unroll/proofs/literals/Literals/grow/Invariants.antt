use Rattle.std.proofs.Common.{◌-◌, length}
use Rattle.cg_unroll.specs.Sparse.{AreZero, IsSparse}
use Rattle.cg_unroll.proofs.literals.Literals.grow.Given as goal

abbrev pub invariant-places : goal.invariant-places
invariant-places l = record { zeros : AreZero l.self-inside.literals.items; sparse : IsSparse l.self-inside.literals.items l.self-inside.written.items }

abbrev pub decreases-places : goal.decreases-places
decreases-places l = l.places - length l.self-inside.literals.items
