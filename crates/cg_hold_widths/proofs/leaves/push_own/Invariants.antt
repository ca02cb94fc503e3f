use Rattle.std.proofs.Common.{◌≡◌, ◌+◌, ℕ, take}
use Rattle.std.specs.List.{count_by}
use Rattle.cg_hold_widths.specs.inner.Marked.{own_count}
use Rattle.cg_hold_widths.specs.inner.Masks.{has_bit}
use Rattle.cg_hold_widths.proofs.leaves.push_own.Given as goal

abbrev pub invariant-loop-place : goal.invariant-loop-place
invariant-loop-place l = (i : ℕ) → count_by (has_bit i) l.leaves.items ≡ count_by (has_bit i) l.fn.leaves.items + own_count l.machine l.masks (take l.place l.regs) i
