use Rattle.std.proofs.Common.{◌≡◌, ℕ, ◌-◌, ◌<◌, ◌≤◌, ◌==◌, false, length, slice_index}
use Rattle.cg_scan.proofs.first.search.Given as goal

abbrev pub invariant-runs : goal.invariant-runs
invariant-runs l = record {
  within : l.seen ≤ length l.text;
  before : (k : ℕ) → k < l.seen → (slice_index l.text k == l.value) ≡ false;
}

abbrev pub decreases-runs : goal.decreases-runs
decreases-runs l = length l.text - l.seen
