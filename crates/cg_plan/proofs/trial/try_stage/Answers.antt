use Rattle.cg_plan.proofs.trial.try_stage.Goals as goal

pub try_stage-result-requires-clause-knows : goal.try_stage-result-requires-clause-knows
try_stage-result-requires-clause-knows c = c.new-fanout.ensures c.args.machine.now
