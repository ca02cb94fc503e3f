use Rattle.std.proofs.Common.{◌≡◌, take}
use Rattle.cg_odc.specs.inner.Kept.{not_among}
use Rattle.cg_odc.proofs.kept.left_of.Given as goal

abbrev pub invariant-loop-reg : goal.invariant-loop-reg
invariant-loop-reg l = l.left ≡ not_among l.kept.keys (take l.reg-index l.regs)
