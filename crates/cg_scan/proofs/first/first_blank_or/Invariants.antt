use Rattle.std.proofs.Common.{◌≡◌, ℕ, ◌-◌, ◌<◌, ◌≤◌, false, length, slice_index}
use Rattle.cg_scan.specs.Runs.{is_blank_or}
use Rattle.cg_scan.proofs.first.first_blank_or.Given as goal

abbrev pub invariant-runs : goal.invariant-runs
invariant-runs l = record {
  within : l.seen ≤ length l.text;
  before : (k : ℕ) → k < l.seen → is_blank_or l.value (slice_index l.text k) ≡ false;
}

abbrev pub decreases-runs : goal.decreases-runs
decreases-runs l = length l.text - l.seen
