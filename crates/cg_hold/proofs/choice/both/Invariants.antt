use Rattle.std.proofs.Common.{◌≡◌, take}
use Rattle.cg_stage_list_laws.specs.Literals.{both_literals}
use Rattle.cg_hold.proofs.choice.both.Given as goal

abbrev pub invariant-loop-number : goal.invariant-loop-number
invariant-loop-number l = l.literals.items ≡ both_literals (take l.number-index l.nets)
