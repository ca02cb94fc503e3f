use Rattle.std.proofs.Common.{◌≡◌, ◌++◌, take}
use Rattle.std.specs.List.{filter}
use Rattle.cg_claim.specs.Reach.{next_asks_own}
use Rattle.cg_unroll_cycles.proofs.asked.push_own.Given as goal

abbrev pub invariant-loop-reg : goal.invariant-loop-reg
invariant-loop-reg l = l.numbers.items ≡ l.initial.numbers.items ++ filter (next_asks_own l.machine) (take l.reg-index l.registers)
