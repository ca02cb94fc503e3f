use Rattle.std.proofs.Common.{◌≡◌, ℕ, Bool, take}
use Rattle.std.specs.List.{list_any}
use Rattle.cg_hold_widths.specs.inner.Marked.{net_has}
use Rattle.cg_hold_widths.specs.inner.Masks.{has_bit}
use Rattle.cg_hold_widths.proofs.leaves.outputs_mask.Given as goal

abbrev pub invariant-loop-place : goal.invariant-loop-place
invariant-loop-place l = (i : ℕ) → has_bit i l.mask ≡ list_any (λ (output : ℕ × Bool). net_has l.masks i output.0) (take l.place l.outputs)
