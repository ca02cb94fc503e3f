use Rattle.std.proofs.Common.{◌≡◌, take}
use Rattle.cg_stage_groups.proofs.leaving.numbers_of.Given as goal

abbrev pub invariant-loop-reg : goal.invariant-loop-reg
invariant-loop-reg l = l.numbers.items ≡ take l.reg-index l.regs
