use Rattle.std.proofs.Common.{◌≡◌, length}
use Rattle.cg_decide.specs.inner.Assumed.{Agree}
use Rattle.cg_decide.proofs.assumed.Follower.follow_all.Given as goal

abbrev pub invariant-loop-node : goal.invariant-loop-node
invariant-loop-node l = record {
  long : length l.self.same.items ≡ l.node;
  agree : Agree l.aig l.assumed l.self.same.items;
}
