use Rattle.std.proofs.Common.{◌≡◌, ◌++◌, map, take}
use Rattle.cg_claim_reach.specs.Leaves.{register_leaf}
use Rattle.cg_claim_reach.proofs.leaves.push_registers.Given as goal

abbrev pub invariant-loop-reg : goal.invariant-loop-reg
invariant-loop-reg l = l.leaves.items ≡ l.initial.leaves.items ++ map (register_leaf l.copy) (take l.reg-index l.registers)
