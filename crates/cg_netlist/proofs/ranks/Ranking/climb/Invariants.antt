use Rattle.std.proofs.Common.{◌≡◌, ℕ, true}
use Rattle.cg_netlist.specs.inner.Ranking.{IsSound, left, was_seen}
use Rattle.cg_netlist.proofs.ranks.Ranking.climb.Given as goal

abbrev pub invariant-stack : goal.invariant-stack
invariant-stack l = record {
  sound : IsSound l.fan_in l.self;
  seen : (k : ℕ) → was_seen l.fn.self k ≡ true → was_seen l.self k ≡ true;
}

abbrev pub decreases-stack : goal.decreases-stack
decreases-stack l = left l.self
