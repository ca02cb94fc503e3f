use Rattle.std.proofs.Common.{◌≡◌, take}
use Rattle.cg_stage_list_laws.specs.Rounds.{plain_literals}
use Rattle.cg_odc.proofs.candidates.literals.Given as goal

abbrev pub invariant-loop-number : goal.invariant-loop-number
invariant-loop-number l = l.literals ≡ plain_literals (take l.number-index l.numbers)
