use Rattle.std.proofs.Common.{◌∙◌, ap}
use Rattle.cg_gate.proofs.gate.said.Goals as goal
use Rattle.cg_gate.specs.Gating.{told_outcomes}
use Rattle.cg_gate.specs.Request.{RequestData}
use Rattle.cg_plan.specs.Planning.{told}
use Rattle.cg_plan_text.specs.Summary.{said_text}

pub returns : goal.returns
returns c =
    let gated = c.args.gated.now in
    c.from_vec.ensures ∙ (c.in_ok-text.ensures
    ∙ ap (λ o. said_text (told gated.plan) o c.args.played.now) (c.told_outcomes-outcomes.ensures ∙ ap (λ (r : RequestData). told_outcomes r gated.outcomes) c.request.view_is))
