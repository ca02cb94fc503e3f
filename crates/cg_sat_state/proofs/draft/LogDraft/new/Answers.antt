use Rattle.cg_sat_state.proofs.Log.{draft_new}
use Rattle.cg_sat_state.proofs.draft.LogDraft.new.Goals as goal

pub invariant_of-result : goal.invariant_of-result
invariant_of-result c = draft_new c.args.formula.now c.put_clauses.new.clauses c.new.result c.in_ok-put_clauses.ensures c.new.ensures
