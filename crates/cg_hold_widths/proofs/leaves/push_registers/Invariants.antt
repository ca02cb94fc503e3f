use Rattle.std.proofs.Common.{◌≡◌, ◌+◌, ℕ, take}
use Rattle.std.specs.List.{count_by}
use Rattle.cg_hold_widths.specs.inner.Marked.{register_has}
use Rattle.cg_hold_widths.specs.inner.Masks.{has_bit}
use Rattle.cg_hold_widths.proofs.leaves.push_registers.Given as goal

abbrev pub invariant-loop-reg : goal.invariant-loop-reg
invariant-loop-reg l = (i : ℕ) → count_by (has_bit i) l.leaves.items ≡ count_by (has_bit i) l.fn.leaves.items + count_by (register_has l.machine l.masks i) (take l.reg-index l.regs)
