use Rattle.cg_plan.proofs.judge.Judge.settle.Goals as goal

pub returns-in-None-clause-settles : goal.returns-in-None-clause-settles
returns-in-None-clause-settles c = rw c.in-None.is c.decide.ensures.decided
