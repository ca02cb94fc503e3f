use Rattle.std.proofs.Common.{take}
use Rattle.cg_hold_widths.specs.inner.Counts.{AreCounts}
use Rattle.cg_hold_widths.proofs.counts.counts.Given as goal

abbrev pub invariant-loop-mask : goal.invariant-loop-mask
invariant-loop-mask l = AreCounts (take l.mask-index l.masks) l.counts.items
