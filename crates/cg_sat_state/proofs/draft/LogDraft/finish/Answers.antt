use Rattle.std.proofs.Common.{◌≡◌, ◌+◌, [], refl, ap, None, arith, rules}
use Rattle.cg_lrat.specs.Accepted.{clause_fault}
use Rattle.cg_sat_state.specs.Store.{live_of}
use Rattle.cg_sat_state.proofs.Log.{draft_accepted}
use Rattle.cg_sat_state.proofs.draft.LogDraft.finish.Goals as goal

pub returns-clause-log : goal.returns-clause-log
returns-clause-log c =
    let fine : clause_fault (live_of c.self.inside.clauses) [] c.args.hints.items ≡ None = search rules in
    (draft_accepted c.self.inside.formula.now c.self.inside.clauses c.self.inside.steps _ (record { lits = [] }) c.as_slice.result.now (record { steps = c.add.new.self })
    c.self.invariant refl (ap (λ n. n + 1) c.len.ensures.count) (ap (λ n. n + 1) c.len-2.ensures.count) (omega (arith, c.len.ensures.few, c.len.ensures.count)) refl (rw c.as_slice.ensures.value fine) c.in_ok-add.ensures.added).1

pub returns-clause-numbered : goal.returns-clause-numbered
returns-clause-numbered c =
    let fine : clause_fault (live_of c.self.inside.clauses) [] c.args.hints.items ≡ None = search rules in
    (draft_accepted c.self.inside.formula.now c.self.inside.clauses c.self.inside.steps _ (record { lits = [] }) c.as_slice.result.now (record { steps = c.add.new.self })
    c.self.invariant refl (ap (λ n. n + 1) c.len.ensures.count) (ap (λ n. n + 1) c.len-2.ensures.count) (omega (arith, c.len.ensures.few, c.len.ensures.count)) refl (rw c.as_slice.ensures.value fine) c.in_ok-add.ensures.added).2
