use Rattle.std.proofs.Common.{◌≡◌, ◌∷◌, ◌++◌, codes, decimal, drop, length, map}
use Rattle.cg_plan_text.specs.Words.{register_word}
use Rattle.cg_plan_text.specs.inner.Spaced.{spaced}
use Rattle.cg_plan_text.proofs.stage.push_registers.Given as goal

abbrev pub invariant-regs : goal.invariant-regs
invariant-regs l = l.text.items ++ spaced (map (register_word l.machine) (drop l.reg-index l.regs)) ≡ l.fn.text.items ++ spaced (codes "regs" ∷ decimal (length l.regs) ∷ map (register_word l.machine) l.regs)
