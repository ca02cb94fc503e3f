use Rattle.std.proofs.Common.{◌+◌, [], ◌∷◌, ap, arith}
use Rattle.cg_lrat.specs.declared.log.Body.TheVariants.{Delete}
use Rattle.cg_lrat.specs.declared.log.Step.{Step}
use Rattle.cg_sat_state.proofs.Store.{clause_within}
use Rattle.cg_sat_state.proofs.Log.{draft_without}
use Rattle.cg_sat_state.proofs.draft.LogDraft.delete.Goals as goal

pub id-requires : goal.id-requires
id-requires c = clause_within c.self.inside.clauses c.args.place _ c.in-Some.ensures

pub invariant_of-self-2 : goal.invariant_of-self-2
invariant_of-self-2 c =
    let step : Step = record { line = c.len.result + 1; id = c.len-id.result; body = Delete (c.id.result ∷ []) } in
    draft_without c.self.inside.formula.now c.self.inside.clauses c.remove.new.self c.self.inside.steps c.delete.new.self step c.args.place _
    c.self.invariant (ap (λ n. Delete (n ∷ [])) c.id.ensures) c.len-id.ensures.count (ap (λ n. n + 1) c.len.ensures.count) (omega (arith, c.len-id.ensures.few, c.len-id.ensures.count)) c.in-Some.ensures c.remove.ensures c.in_ok-delete.ensures.added
