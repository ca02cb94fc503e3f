use Rattle.std.proofs.Common.{drop}
use Rattle.cg_hold_widths.proofs.Touching.{ClearedLeft}
use Rattle.cg_hold_widths.proofs.masks.clear_all.Given as goal

abbrev pub invariant-loop-net : goal.invariant-loop-net
invariant-loop-net l = ClearedLeft l.touched l.masks (drop l.net-index l.touched)
