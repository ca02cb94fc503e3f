use Rattle.std.proofs.Common.{◌≡◌, ◌+◌, length}
use Rattle.cg_decide.specs.inner.Assignments.{AreQuads}
use Rattle.cg_decide.proofs.exhaustive.Exhaustive.lay.Given as goal

abbrev pub invariant-loop-leaf : goal.invariant-loop-leaf
invariant-loop-leaf l = record {
  long : length l.self.quads.items ≡ 1 + l.leaf;
  words : AreQuads l.aig l.number l.self.quads.items;
}
