use Rattle.cg_judge.proofs.There.{told_found}
use Rattle.cg_judge.proofs.decider.ClaimDecider.is_ever_one.Goals as goal

pub returns : goal.returns
returns c = told_found c.args.aig.now c.args.goal c.in_ok-found.found c.is_some.result c.is_some.ensures c.in_ok-found.ensures.never c.in_ok-found.ensures.sometimes
