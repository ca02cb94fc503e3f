use Rattle.std.proofs.Common.{◌≡◌, ◌+◌, drop}
use Rattle.std.specs.List.{count_by}
use Rattle.cg_plan_laws.specs.Plan.{is_inserted}
use Rattle.cg_plan_text.proofs.summary.inserted.Given as goal

abbrev pub invariant-stages : goal.invariant-stages
invariant-stages l = l.count + count_by (λ tried. is_inserted tried.1) (drop l.tried-index l.stages) ≡ count_by (λ tried. is_inserted tried.1) l.stages
