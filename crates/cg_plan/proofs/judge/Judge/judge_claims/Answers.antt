use Rattle.std.proofs.Common.{IfErr, IfOk, subst}
use Rattle.cg_machine.specs.declared.stage.Stage.{Stage}
use Rattle.cg_plan_laws.specs.StageClaims.{all_claims}
use Rattle.cg_plan_laws.specs.Reported.{MayFail}
use Rattle.cg_plan_laws.specs.Trying.{decided, measured}
use Rattle.cg_plan.specs.inner.Judging.{IsJudged}
use Rattle.cg_plan.proofs.judge.Judge.judge_claims.Goals as goal

pub returns-clause-judged : goal.returns-clause-judged
returns-clause-judged c =
    let m = c.args.machine.now in
    let w = c.args.settings.now.width in
    subst (λ (s : Stage). IfOk c.judge_named.result (IsJudged m s (measured m w (all_claims m s) (decided m s)))) c.in_ok-sets.ensures c.judge_named.ensures.judged

pub returns-clause-fault : goal.returns-clause-fault
returns-clause-fault c =
    let m = c.args.machine.now in
    let w = c.args.settings.now.width in
    subst (λ (s : Stage). IfErr c.judge_named.result (MayFail (measured m w (all_claims m s) (decided m s)))) c.in_ok-sets.ensures c.judge_named.ensures.fault
