use Rattle.std.proofs.Common.{◌≡◌, ◌||◌, ℕ, take}
use Rattle.cg_net.specs.NetSets.{is_in}
use Rattle.cg_odc.specs.inner.Kept.{inserted_guards}
use Rattle.cg_odc.proofs.kept.keep_inserted.Given as goal

abbrev pub invariant-loop-before : goal.invariant-loop-before
invariant-loop-before l = (y : ℕ) → is_in l.kept.keys y ≡ (is_in l.initial.kept.keys y || is_in (inserted_guards (take l.before-index l.earlier)) y)
