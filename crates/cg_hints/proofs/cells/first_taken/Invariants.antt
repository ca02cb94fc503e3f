use Rattle.std.proofs.Common.{◌≡◌, is_some, drop}
use Rattle.std.specs.List.{find}
use Rattle.cg_machine.specs.Machine.{enable_of}
use Rattle.cg_hints.proofs.cells.first_taken.Given as goal

abbrev pub invariant-loop-reg : goal.invariant-loop-reg
invariant-loop-reg l = find (λ r. is_some (enable_of l.machine r)) (drop l.reg-index l.regs) ≡ find (λ r. is_some (enable_of l.machine r)) l.regs
