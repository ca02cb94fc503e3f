use Rattle.std.proofs.Common.{◌≡◌, ◌≤◌, ◌<◌, ◌*◌, ℕ, false}
use Rattle.cg_edge.specs.inner.Bits.{is_one}
use Rattle.cg_edge.proofs.marks.Marks.next_from.Given as goal

abbrev pub invariant-loop-k : goal.invariant-loop-k
invariant-loop-k l = (q : ℕ) → 64 * l.word ≤ q → q < 64 * l.k → is_one l.self-inside.words.items q ≡ false
