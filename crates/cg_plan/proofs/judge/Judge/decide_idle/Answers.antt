use Rattle.std.proofs.Common.{refl, sym, subst}
use Rattle.cg_hold.proofs.Decided.{decided_never, decided_sometimes, told}
use Rattle.cg_judge.proofs.There.{told_there}
use Rattle.cg_judge.specs.Verdict.{ToldOne}
use Rattle.cg_plan.proofs.judge.Judge.decide_idle.Goals as goal

pub returns-then-idles : goal.returns-then-idles
returns-then-idles c = λ m q width good fits is.
    let claim = c.args.self.now.unroller in
    let one = subst (ToldOne claim.aig claim.goal) c.if-idles.true (told_there c.aig.result.now claim.aig c.goal.result claim.goal c.in_ok-idles.idles c.aig.ensures c.goal.ensures c.in_ok-idles.ensures) in
    sym (decided_sometimes c.claim_laws.ensures.never m q width claim good fits (told m q width claim is) one.bits one.one)

pub returns : goal.returns
returns c = λ m q width good fits is.
    let claim = c.args.self.now.unroller in
    let never = subst (ToldOne claim.aig claim.goal) c.if-idles.false (told_there c.aig.result.now claim.aig c.goal.result claim.goal c.in_ok-idles.idles c.aig.ensures c.goal.ensures c.in_ok-idles.ensures) in
    (sym (decided_never c.claim_laws.ensures.never m q width claim good fits (told m q width claim is) never), refl)
