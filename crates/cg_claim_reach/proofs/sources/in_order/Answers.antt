use Rattle.std.proofs.Common.{◌∙◌}
use Rattle.cg_claim_reach.proofs.sources.in_order.Goals as goal

pub returns : goal.returns
returns c = λ n below. c.from_vec.ensures ∙ (c.in_ok-regs.ensures ∙ (c.deref.ensures.value ∙ c.ascending.ensures n below))
