use Rattle.std.proofs.Common.{◌≡◌, length}
use Rattle.cg_hold.proofs.cone_cycles.draw_registers.Given as goal

abbrev pub invariant-loop-reg : goal.invariant-loop-reg
invariant-loop-reg l = length l.words.items ≡ length l.fn.words.items
