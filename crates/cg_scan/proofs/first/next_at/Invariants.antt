use Rattle.std.proofs.Common.{◌≡◌, ℕ, ◌-◌, ◌<◌, ◌≤◌, ◌==◌, false, length, slice_index}
use Rattle.cg_scan.proofs.first.next_at.Given as goal

abbrev pub invariant-bytes : goal.invariant-bytes
invariant-bytes l = record {
  behind : l.from ≤ l.at;
  within : l.at ≤ length l.text;
  before : (k : ℕ) → l.from ≤ k → k < l.at → (slice_index l.text k == l.value) ≡ false;
}

abbrev pub decreases-bytes : goal.decreases-bytes
decreases-bytes l = length l.text - l.at
