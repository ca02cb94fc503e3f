use Rattle.std.proofs.Common.{◌≡◌, length}
use Rattle.cg_edge.specs.inner.Spans.{AreApart, AreEmpty}
use Rattle.cg_edge.proofs.filling.lay.Given as goal

abbrev pub invariant-loop-count : goal.invariant-loop-count
invariant-loop-count l = (length l.spans.items ≡ l.count-index) × AreApart l.room l.spans.items l.end × AreEmpty l.spans.items
