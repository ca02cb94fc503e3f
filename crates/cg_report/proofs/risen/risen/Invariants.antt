use Rattle.std.proofs.Common.{◌≡◌, ◌+◌, Bool, length}
use Rattle.std.specs.List.{count_by}
use Rattle.cg_report.proofs.risen.risen.Given as goal

abbrev pub invariant-parts : goal.invariant-parts
invariant-parts l = l.count + count_by (λ (rose : Bool). rose) l.rest ≡ count_by (λ (rose : Bool). rose) l.rises

abbrev pub decreases-parts : goal.decreases-parts
decreases-parts l = length l.rest
