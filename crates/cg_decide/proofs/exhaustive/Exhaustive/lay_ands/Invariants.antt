use Rattle.std.proofs.Common.{◌≡◌, ◌+◌, length}
use Rattle.cg_decide.specs.inner.Assignments.{AreQuads}
use Rattle.cg_decide.proofs.exhaustive.Exhaustive.lay_ands.Given as goal

abbrev pub invariant-loop-k : goal.invariant-loop-k
invariant-loop-k l = record {
  long : length l.self.quads.items ≡ 1 + l.aig.number + l.k;
  words : AreQuads l.aig l.number l.self.quads.items;
}
