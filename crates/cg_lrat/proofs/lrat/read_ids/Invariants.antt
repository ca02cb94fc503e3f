use Rattle.std.proofs.Common.{◌≡◌, length}
use Rattle.cg_lrat.specs.LratReading.{ids_at}
use Rattle.cg_lrat.proofs.ReadingOn.{ids_before}
use Rattle.cg_lrat.proofs.lrat.read_ids.Given as goal

abbrev pub invariant-ids : goal.invariant-ids
invariant-ids l = ids_before l.ids.items (ids_at l.line l.words) ≡ ids_at l.line l.fn.words

abbrev pub decreases-ids : goal.decreases-ids
decreases-ids l = length l.words
