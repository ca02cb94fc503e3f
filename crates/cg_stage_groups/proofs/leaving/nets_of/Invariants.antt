use Rattle.std.proofs.Common.{◌≡◌, map, take}
use Rattle.cg_machine.specs.Claims.{Literal}
use Rattle.cg_stage_groups.proofs.leaving.nets_of.Given as goal

abbrev pub invariant-loop-literal : goal.invariant-loop-literal
invariant-loop-literal l = l.numbers.items ≡ map (λ (x : Literal). x.0) (take l.literal-index l.literals)
