use Rattle.cg_stage_laws.proofs.Appended.{keeps_then}
use Rattle.cg_hints.proofs.insert.add_condition.Goals as goal

pub returns-clause-keeps : goal.returns-clause-keeps
returns-clause-keeps c = keeps_then c.args.machine.now c.add_terms.new.machine c.join_all.new.machine c.add_terms.ensures.keeps c.join_all.ensures.keeps
