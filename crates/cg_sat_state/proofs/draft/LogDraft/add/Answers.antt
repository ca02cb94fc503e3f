use Rattle.std.proofs.Common.{◌≡◌, ℕ, ◌+◌, List, [], ◌∷◌, ◌++◌, ◌∙◌, Some, None, ap, refl, arith, rules}
use Rattle.cg_formula.specs.declared.formula.Lit.{Lit}
use Rattle.cg_lrat.specs.declared.log.Body.TheVariants.{Add}
use Rattle.cg_lrat.specs.declared.log.Step.{Step}
use Rattle.cg_lrat.specs.Accepted.{clause_fault}
use Rattle.cg_sat_state.specs.Store.{live_of}
use Rattle.cg_sat_state.proofs.Log.{draft_pushed}
use Rattle.cg_sat_state.proofs.draft.LogDraft.add.Goals as goal

abbrev addition : ℕ → ℕ → List Lit → List ℕ → Step
addition line id lits hints = record { line = line; id = id; body = Add (record { lits = lits }) hints }

pub invariant_of-self-in-Ok : goal.invariant_of-self-in-Ok
invariant_of-self-in-Ok c =
    let lits = c.args.lits.items in
    let hints = c.args.hints.items in
    let clauses = c.self.inside.clauses in
    let steps = c.self.inside.steps in
    let line = c.len.result + 1 in
    let id = c.len-count.result + 1 in
    let added : c.push.new.self ≡ clauses ++ Some lits ∷ [] = c.in_ok-push.ensures.added ∙ ap (λ ls. clauses ++ Some ls ∷ []) c.as_slice.ensures.value in
    let pushed : c.add.new.self ≡ steps ++ addition line id lits hints ∷ [] =
    c.in-Ok.ensures.added
    ∙ ap (λ ls. steps ++ addition line id ls c.as_slice-3.result.now ∷ []) c.as_slice-2.ensures.value
    ∙ ap (λ is. steps ++ addition line id lits is ∷ []) c.as_slice-3.ensures.value in
    let fine : clause_fault (live_of clauses) lits hints ≡ None = search rules in
    draft_pushed c.self.inside.formula.now clauses c.push.new.self steps c.add.new.self (addition line id lits hints) (record { lits = lits }) hints
    c.self.invariant refl (ap (λ n. n + 1) c.len-count.ensures.count) (ap (λ n. n + 1) c.len.ensures.count) (omega (arith, c.len-count.ensures.few, c.len-count.ensures.count)) c.requires.lits fine c.requires.full added pushed
