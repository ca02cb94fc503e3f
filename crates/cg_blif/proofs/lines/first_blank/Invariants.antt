use Rattle.std.proofs.Common.{◌≡◌, ℕ, ◌-◌, ◌<◌, ◌≤◌, false, length, slice_index}
use Rattle.cg_text.specs.Blanks.{is_blank}
use Rattle.cg_text.specs.declared.blanks.Blanks.TheVariants.{Controls}
use Rattle.cg_blif.proofs.lines.first_blank.Given as goal

abbrev pub invariant-runs : goal.invariant-runs
invariant-runs l = record {
  within : l.seen ≤ length l.text;
  before : (k : ℕ) → k < l.seen → is_blank Controls (slice_index l.text k) ≡ false;
}

abbrev pub decreases-runs : goal.decreases-runs
decreases-runs l = length l.text - l.seen
