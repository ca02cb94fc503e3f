use Rattle.std.proofs.Common.{subst}
use Rattle.cg_claim.specs.Question.{idle_question}
use Rattle.cg_plan.specs.inner.Measuring.{IsBuilt}
use Rattle.cg_unroll.specs.Claims.{IsClaim}
use Rattle.cg_plan.proofs.Deciding.{goal_is}
use Rattle.cg_plan.proofs.judge.Judge.judge_named.Goals as goal

pub judge_each-requires-clause-settled : goal.judge_each-requires-clause-settled
judge_each-requires-clause-settled c =
    let m = c.args.claims.now.machine.now in
    let q = idle_question c.args.claims.now.stage.now.enable in
    let w = c.args.claims.now.width in
    let built : IsClaim m q w c.measure.new.unroller = subst (IsBuilt m q w c.measure.new.unroller) c.in_default.is c.in_ok-end.ensures.built in
    c.in_ok-settled.ensures m q w c.netlist-netlist.ensures.machine tt built

pub decide_idle-requires : goal.decide_idle-requires
decide_idle-requires c =
    let m = c.args.claims.now.machine.now in
    let q = idle_question c.args.claims.now.stage.now.enable in
    let w = c.args.claims.now.width in
    let built : IsClaim m q w c.measure.new.unroller = subst (IsBuilt m q w c.measure.new.unroller) c.in_default.is c.in_ok-end.ensures.built in
    goal_is m q w c.measure.new.unroller built
