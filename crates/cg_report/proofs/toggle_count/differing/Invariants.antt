use Rattle.std.proofs.Common.{◌≡◌, ◌+◌, ◌≤◌, drop}
use Rattle.cg_report.specs.Counts.{differing}
use Rattle.cg_report.proofs.toggle_count.differing.Given as goal

abbrev pub invariant-loop-place : goal.invariant-loop-place
invariant-loop-place l = record {
  counted : l.count + differing (drop l.place l.before) (drop l.place l.now) ≡ differing l.before l.now;
  within : l.count ≤ l.place;
}
