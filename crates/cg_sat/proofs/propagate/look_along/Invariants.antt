use Rattle.std.proofs.Common.{◌-◌, length}
use Rattle.cg_sat.specs.inner.Search.{Grows}
use Rattle.cg_sat.proofs.propagate.look_along.Given as goal

abbrev pub invariant-list : goal.invariant-list
invariant-list l = Grows l.count l.clauses l.fn.trail l.trail

abbrev pub decreases-list : goal.decreases-list
decreases-list l = length l.list.items - l.at
