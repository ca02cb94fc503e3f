use Rattle.std.proofs.Common.{◌≡◌, length}
use Rattle.cg_lrat.specs.LratReading.{lits_at}
use Rattle.cg_lrat.proofs.ReadingOn.{lits_before}
use Rattle.cg_lrat.proofs.lrat.read_lits.Given as goal

abbrev pub invariant-literals : goal.invariant-literals
invariant-literals l = lits_before l.lits.items (lits_at l.line l.words) ≡ lits_at l.line l.fn.words

abbrev pub decreases-literals : goal.decreases-literals
decreases-literals l = length l.words
