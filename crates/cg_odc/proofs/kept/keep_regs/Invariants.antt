use Rattle.std.proofs.Common.{◌≡◌, ◌||◌, ℕ, take}
use Rattle.cg_net.specs.NetSets.{is_in}
use Rattle.cg_odc.proofs.kept.keep_regs.Given as goal

abbrev pub invariant-loop-reg : goal.invariant-loop-reg
invariant-loop-reg l = (y : ℕ) → is_in l.kept.keys y ≡ (is_in l.initial.kept.keys y || is_in (take l.reg-index l.regs) y)
