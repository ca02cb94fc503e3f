use Rattle.std.proofs.Common.{◌≡◌, ◌+◌, drop}
use Rattle.std.specs.List.{count_by}
use Rattle.cg_hint_laws.specs.Trying.{is_inserted}
use Rattle.cg_plan_text.proofs.summary.inserted_hints.Given as goal

abbrev pub invariant-outcomes : goal.invariant-outcomes
invariant-outcomes l = l.count + count_by is_inserted (drop l.outcome-index l.outcomes) ≡ count_by is_inserted l.outcomes
