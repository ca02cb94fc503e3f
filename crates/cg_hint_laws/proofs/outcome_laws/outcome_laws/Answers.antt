use Rattle.cg_hint_laws.proofs.Deserved.{outcomes_deserved, turns_deserved}
use Rattle.cg_hint_laws.proofs.outcome_laws.outcome_laws.Goals as goal

pub returns : goal.returns
returns c = record { outcomes = outcomes_deserved; turns = turns_deserved }
