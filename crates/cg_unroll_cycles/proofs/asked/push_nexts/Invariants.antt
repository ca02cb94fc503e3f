use Rattle.std.proofs.Common.{◌≡◌, ◌++◌, take}
use Rattle.std.specs.List.{flat_map}
use Rattle.cg_claim.specs.Reach.{next_nets}
use Rattle.cg_unroll_cycles.proofs.asked.push_nexts.Given as goal

abbrev pub invariant-loop-reg : goal.invariant-loop-reg
invariant-loop-reg l = l.nets.items ≡ l.initial.nets.items ++ flat_map (next_nets l.machine) (take l.reg-index l.registers)
