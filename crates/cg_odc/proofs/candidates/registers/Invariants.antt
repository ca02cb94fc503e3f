use Rattle.std.proofs.Common.{◌≡◌, take}
use Rattle.cg_odc.proofs.candidates.registers.Given as goal

abbrev pub invariant-loop-number : goal.invariant-loop-number
invariant-loop-number l = l.regs ≡ take l.number-index l.numbers
