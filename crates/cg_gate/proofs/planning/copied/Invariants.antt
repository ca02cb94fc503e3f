use Rattle.std.proofs.Common.{◌≡◌, take}
use Rattle.cg_gate.proofs.planning.copied.Given as goal

abbrev pub invariant-loop-reg : goal.invariant-loop-reg
invariant-loop-reg l = l.made ≡ take l.reg-index l.regs
