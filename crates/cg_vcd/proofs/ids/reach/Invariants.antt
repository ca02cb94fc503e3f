use Rattle.std.proofs.Common.{◌≡◌, ℕ, ◌-◌, suc, length, slice_index_or}
use Rattle.cg_vcd.proofs.ids.reach.Given as goal

abbrev pub invariant-places : goal.invariant-places
invariant-places l = (other : ℕ) → slice_index_or l.short.items other 0 ≡ slice_index_or l.fn.short.items other 0

abbrev pub decreases-places : goal.decreases-places
decreases-places l = suc l.place - length l.short.items
