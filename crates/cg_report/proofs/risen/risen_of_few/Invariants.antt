use Rattle.std.proofs.Common.{◌≡◌, Bool, take}
use Rattle.std.specs.List.{count_by}
use Rattle.cg_report.proofs.risen.risen_of_few.Given as goal

abbrev pub invariant-loop-rose : goal.invariant-loop-rose
invariant-loop-rose l = l.count ≡ count_by (λ (rose : Bool). rose) (take l.rose-index l.rises)
