use Rattle.std.proofs.Common.{◌≡◌, ◌||◌, ℕ, take}
use Rattle.cg_net.specs.NetSets.{is_in}
use Rattle.cg_odc.specs.inner.Kept.{key_numbers}
use Rattle.cg_odc.proofs.kept.keep_groups.Given as goal

abbrev pub invariant-loop-place : goal.invariant-loop-place
invariant-loop-place l = (y : ℕ) → is_in l.kept.keys y ≡ (is_in l.initial.kept.keys y || is_in (key_numbers (take l.place l.groups.keys.keys)) y)
