use Rattle.std.proofs.Common.{◌≡◌, ◌+◌, ◌≤◌, take, length}
use Rattle.cg_sat_state.specs.Trail.{lits_of}
use Rattle.cg_sat.specs.inner.Learn.{Derives}
use Rattle.cg_sat.proofs.learn.first_point.Given as goal

abbrev pub invariant-loop-at : goal.invariant-loop-at
invariant-loop-at l = record {
  derives : Derives l.clauses (lits_of (take l.at l.trail)) l.work.marks.items l.work.kept.items l.work.hints.items;
  long : length l.work.marks.items ≡ length l.fn.work.marks.items;
  kept : l.work.kept.items ≡ l.fn.work.kept.items;
  low : l.from + 1 ≤ l.at;
}
