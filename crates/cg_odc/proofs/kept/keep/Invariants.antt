use Rattle.std.proofs.Common.{◌≡◌, ◌||◌, ℕ, take}
use Rattle.cg_net.specs.NetSets.{is_in}
use Rattle.cg_odc.proofs.kept.keep.Given as goal

abbrev pub invariant-loop-number : goal.invariant-loop-number
invariant-loop-number l = (y : ℕ) → is_in l.kept.keys y ≡ (is_in l.initial.kept.keys y || is_in (take l.number-index l.numbers) y)
