use Rattle.std.proofs.Common.{◌≡◌, ◌+◌, suc, ◌++◌, ◌∷◌, [], Some, sym, ap, ◌∙◌, arith}
use Rattle.cg_sat_state.proofs.Store.{given_more}
use Rattle.cg_sat_state.proofs.draft.put_clauses.Goals as goal

pub loop-place-preserved : goal.loop-place-preserved
loop-place-preserved c =
    let next : c.loop-place.place + 1 ≡ suc c.loop-place.place = omega arith in
    rw next (c.in_ok-push.ensures.added
    ∙ (ap (λ clauses. clauses ++ Some c.at.result.now ∷ []) c.loop-place.invariant
    ∙ sym (given_more c.args.formula.now.clauses c.loop-place.place c.at.result.now c.at.ensures.clause)))
