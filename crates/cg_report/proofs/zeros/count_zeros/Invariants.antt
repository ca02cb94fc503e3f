use Rattle.cg_report.specs.inner.ZeroCounting.{AreCounted}
use Rattle.cg_report.proofs.zeros.count_zeros.Given as goal

abbrev pub invariant-loop-net : goal.invariant-loop-net
invariant-loop-net l = AreCounted l.net l.nets l.fn.zeros l.zeros
