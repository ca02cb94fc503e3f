use Rattle.std.proofs.Common.{◌≡◌, length}
use Rattle.cg_sat.proofs.Reasons.{MarksBelow}
use Rattle.cg_sat.proofs.forget.reasons.Given as goal

abbrev pub invariant-loop-entry : goal.invariant-loop-entry
invariant-loop-entry l = record {
  long : length l.used.items ≡ l.places;
  marked : MarksBelow l.entry-index l.trail l.used.items;
}
