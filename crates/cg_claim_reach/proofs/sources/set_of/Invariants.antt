use Rattle.std.proofs.Common.{◌≡◌, [], drop}
use Rattle.cg_claim_reach.specs.inner.Sources.{with_numbers}
use Rattle.cg_claim_reach.proofs.sources.set_of.Given as goal

abbrev pub invariant-loop-reg : goal.invariant-loop-reg
invariant-loop-reg l = with_numbers l.set.keys (drop l.reg-index l.regs) ≡ with_numbers [] l.regs
