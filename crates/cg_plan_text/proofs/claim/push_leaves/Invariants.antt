use Rattle.std.proofs.Common.{◌≡◌, ◌++◌, drop, map}
use Rattle.cg_plan_text.specs.Words.{leaf_word}
use Rattle.cg_plan_text.specs.inner.Spaced.{spaced}
use Rattle.cg_plan_text.proofs.claim.push_leaves.Given as goal

abbrev pub invariant-bits : goal.invariant-bits
invariant-bits l = l.text.items ++ spaced (map (leaf_word l.machine) (drop l.bit-index l.bits)) ≡ l.fn.text.items ++ spaced (map (leaf_word l.machine) l.bits)
