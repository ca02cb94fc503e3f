use Rattle.std.proofs.Common.{◌≡◌, false, not, nat_eq, take}
use Rattle.std.specs.List.{list_any}
use Rattle.cg_stability.proofs.key.has_other.Given as goal

abbrev pub invariant-loop-other : goal.invariant-loop-other
invariant-loop-other l = list_any (λ k. not (nat_eq k l.reg)) (take l.other-index l.registers) ≡ false
