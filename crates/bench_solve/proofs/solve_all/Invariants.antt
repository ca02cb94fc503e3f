use Rattle.std.proofs.Common.{◌-◌, length}
use Rattle.bench_solve.proofs.solve_all.Given as goal

abbrev pub decreases-texts : goal.decreases-texts
decreases-texts l = length l.text - l.from
