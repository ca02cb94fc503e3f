use Rattle.std.proofs.Common.{◌≡◌, ◌+◌, ◌-◌, ◌≤◌, length, if◌then◌else◌}
use Rattle.std.specs.Option.{IfSome, is_some}
use Rattle.cg_sat.specs.inner.Worth.{weight, worth}
use Rattle.cg_sat.specs.inner.Search.{IsSearch, IsConflict, HasPrefix}
use Rattle.cg_sat.proofs.search.search.Given as goal

abbrev pub invariant-search : goal.invariant-search
invariant-search l = record {
  formula : l.draft.formula ≡ l.fn.draft.formula;
  prefix : HasPrefix l.problem.formula.now l.draft.clauses;
  search : IsSearch l.problem.count l.draft.clauses l.trail;
  marks : l.problem.count ≤ length l.work.marks.items;
  found : IfSome l.found (IsConflict l.draft.clauses l.trail);
}

abbrev pub decreases-search : goal.decreases-search
decreases-search l = let left = weight (l.problem.count + 1) - worth (l.problem.count + 1) l.trail in left + left + (if is_some l.found then 0 else 1)
