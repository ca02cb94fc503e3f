use Rattle.std.proofs.Common.{◌≡◌, ◌+◌, ℕ, take}
use Rattle.std.specs.List.{count_by}
use Rattle.cg_hold_widths.specs.inner.Marked.{net_has}
use Rattle.cg_hold_widths.specs.inner.Masks.{has_bit}
use Rattle.cg_hold_widths.proofs.leaves.push_inputs.Given as goal

abbrev pub invariant-loop-net : goal.invariant-loop-net
invariant-loop-net l = (i : ℕ) → count_by (has_bit i) l.leaves.items ≡ count_by (has_bit i) l.fn.leaves.items + count_by (net_has l.masks i) (take l.net-index l.inputs)
