use Rattle.std.proofs.Common.{◌∙◌, take}
use Rattle.cg_sat_state.proofs.Arena.{on_err}
use Rattle.cg_sat_state.proofs.clauses.append.Goals as goal

pub returns-in_err-push-clause-some : goal.returns-in_err-push-clause-some
returns-in_err-push-clause-some c = on_err c.from_residual.result _ (take c.loop-lit.lit-index c.args.more.now, c.in_err-push.ensures.items ∙ c.loop-lit.invariant)
