use Rattle.std.proofs.Common.{◌≡◌, ℕ, ◌-◌, ◌<◌, ◌≤◌, false, length, slice_index}
use Rattle.cg_scan.specs.Runs.{is_blank_or}
use Rattle.cg_scan.proofs.first.next_blank_or.Given as goal

abbrev pub invariant-bytes : goal.invariant-bytes
invariant-bytes l = record {
  behind : l.from ≤ l.at;
  within : l.at ≤ length l.text;
  before : (k : ℕ) → l.from ≤ k → k < l.at → is_blank_or l.value (slice_index l.text k) ≡ false;
}

abbrev pub decreases-bytes : goal.decreases-bytes
decreases-bytes l = length l.text - l.at
