use Rattle.std.proofs.Common.{◌≡◌, [], replicate}
use Rattle.cg_hold.proofs.candidates.Chosen.none.Given as goal

abbrev pub invariant-loop : goal.invariant-loop
invariant-loop l = l.lists.items ≡ replicate l.counter []
