use Rattle.std.proofs.Common.{ℕ, ◌≡◌, ◌||◌, ◌&&◌, take}
use Rattle.cg_net.specs.NetSets.{is_in}
use Rattle.cg_hold_widths.specs.inner.Masks.{has_bit, mask_at}
use Rattle.cg_hold_widths.proofs.masks.Masks.add_all.Given as goal

abbrev pub invariant-loop-net : goal.invariant-loop-net
invariant-loop-net l = (i y : ℕ) → has_bit i (mask_at l.self y) ≡ (has_bit i (mask_at l.initial.self y) || (is_in (take l.net-index l.nets) y && has_bit i l.bits))
