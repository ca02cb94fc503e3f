-- The verdict that steps taken in order give is the one that the log deserves, and no other.
use Rattle.std.proofs.Common.{◌≡◌, ℕ, Bool, true, false, List, [], ◌∷◌, ◌++◌, Option, Some, None, ◌⊎◌, inl, inr, refl, sym, ap, ◌∙◌}
use Rattle.cg_formula.specs.declared.formula.Formula.{Formula}
use Rattle.cg_lrat.specs.declared.log.Step.{Step}
use Rattle.cg_lrat.specs.declared.log.Log.{Log}
use Rattle.cg_lrat.specs.declared.verdict.Verdict.{Verdict}
use Rattle.cg_lrat.specs.declared.verdict.Verdict.TheVariants.{Accepted, Rejected}
use Rattle.cg_lrat.specs.declared.verdict.Why.{Why}
use Rattle.cg_lrat.specs.declared.verdict.Why.TheVariants.{NoEmpty}
use Rattle.cg_lrat.specs.Accepted.{State, first_state, fault_of, state_after, adds_empty, step_verdict, verdict_from, verdict}
use Rattle.cg_lrat.specs.AcceptedLog.{LeadsTo, IsVerdict}

-- the same from any state
record AcceptedFrom (state : State) (steps : List Step) : Type 0 where
  pub before : List Step
  pub last : Step
  pub behind : List Step
  pub end : State
  pub whole : steps ≡ before ++ last ∷ behind
  pub reached : LeadsTo state before end
  pub taken : fault_of end last.body last.id ≡ None
  pub empty : adds_empty last.body ≡ true

record RefusedFrom (state : State) (steps : List Step) (line : ℕ) (why : Why) : Type 0 where
  pub before : List Step
  pub step : Step
  pub behind : List Step
  pub end : State
  pub whole : steps ≡ before ++ step ∷ behind
  pub reached : LeadsTo state before end
  pub refused : fault_of end step.body step.id ≡ Some why
  pub on_line : step.line ≡ line

record WithoutEmptyFrom (state : State) (steps : List Step) (line : ℕ) (why : Why) : Type 0 where
  pub end : State
  pub reached : LeadsTo state steps end
  pub nowhere : line ≡ 0
  pub cause : why ≡ NoEmpty

abbrev DeservesFrom : State → List Step → Verdict → Type 0
DeservesFrom state steps Accepted = AcceptedFrom state steps
DeservesFrom state steps (Rejected line why) = RefusedFrom state steps line why ⊎ WithoutEmptyFrom state steps line why

-- a step that is taken and leads on puts itself before
onwards : (state : State) (step : Step) (later : List Step) (v : Verdict) → fault_of state step.body step.id ≡ None
    → adds_empty step.body ≡ false
    → DeservesFrom (state_after state step.body step.id) later v → DeservesFrom state (step ∷ later) v
onwards state step later Accepted fine full d = record {
  before = step ∷ d.before;
  last = d.last;
  behind = d.behind;
  end = d.end;
  whole = ap (λ ss. step ∷ ss) d.whole;
  reached = (fine, full, d.reached);
  taken = d.taken;
  empty = d.empty;
}
onwards state step later (Rejected line why) fine full (inl d) = inl (record {
  before = step ∷ d.before;
  step = d.step;
  behind = d.behind;
  end = d.end;
  whole = ap (λ ss. step ∷ ss) d.whole;
  reached = (fine, full, d.reached);
  refused = d.refused;
  on_line = d.on_line;
})
onwards state step later (Rejected line why) fine full (inr d) =
    inr (record { end = d.end; reached = (fine, full, d.reached); nowhere = d.nowhere; cause = d.cause })

deserved_from : (state : State) (steps : List Step) → DeservesFrom state steps (verdict_from state steps)
deserved_from state [] = inr (record { end = state; reached = refl; nowhere = refl; cause = refl })
deserved_from state (step ∷ later) =
    pick (deserved_from (state_after state step.body step.id) later) (fault_of state step.body step.id) refl (adds_empty step.body) refl where
      pick : DeservesFrom (state_after state step.body step.id) later (verdict_from (state_after state step.body step.id) later)
          → (fault : Option Why) → fault_of state step.body step.id ≡ fault → (empty : Bool) → adds_empty step.body ≡ empty
          → DeservesFrom state (step ∷ later) (step_verdict fault empty step.line (verdict_from (state_after state step.body step.id) later))
      pick rest (Some why) f empty g =
          inl (record { before = []; step = step; behind = later; end = state; whole = refl; reached = refl; refused = f; on_line = refl })
      pick rest None f true g =
          record { before = []; last = step; behind = later; end = state; whole = refl; reached = refl; taken = f; empty = g }
      pick rest None f false g = onwards state step later (verdict_from (state_after state step.body step.id) later) f g rest

pub deserved : (formula : Formula) (log : Log) → IsVerdict formula log (verdict formula log)
deserved formula log = shown (verdict formula log) (deserved_from (first_state formula) log.steps) where
  shown : (v : Verdict) → DeservesFrom (first_state formula) log.steps v → IsVerdict formula log v
  shown Accepted d =
      record
      { before = d.before; last = d.last; behind = d.behind; state = d.end; whole = d.whole; reached = d.reached; taken = d.taken; empty = d.empty }
  shown (Rejected line why) (inl d) =
      inl
      (record { before = d.before; step = d.step; behind = d.behind; state = d.end; whole = d.whole; reached = d.reached; refused = d.refused; on_line = d.on_line })
  shown (Rejected line why) (inr d) = inr (record { state = d.end; reached = d.reached; nowhere = d.nowhere; cause = d.cause })

-- steps that lead on change nothing of the verdict
led : (state end : State) (before rest : List Step) → LeadsTo state before end → verdict_from state (before ++ rest) ≡ verdict_from end rest
led state end [] rest same = ap (λ s. verdict_from s rest) same
led state end (step ∷ later) rest leads =
    rw (leads.0, leads.1) (led (state_after state step.body step.id) end later rest leads.2)

nothing_behind : (steps : List Step) → steps ++ [] ≡ steps
nothing_behind [] = refl
nothing_behind (step ∷ later) = ap (λ ss. step ∷ ss) (nothing_behind later)

pub deserves_only : (formula : Formula) (log : Log) (v : Verdict) → IsVerdict formula log v → verdict formula log ≡ v
deserves_only formula log Accepted d =
    ap (verdict_from (first_state formula)) d.whole ∙ led (first_state formula) d.state d.before (d.last ∷ d.behind) d.reached
    ∙ rw (d.taken, d.empty) refl
deserves_only formula log (Rejected line why) (inl d) =
    ap (verdict_from (first_state formula)) d.whole ∙ led (first_state formula) d.state d.before (d.step ∷ d.behind) d.reached
    ∙ rw (d.refused, d.on_line) refl
deserves_only formula log (Rejected line why) (inr d) =
    ap (verdict_from (first_state formula)) (sym (nothing_behind log.steps)) ∙ led (first_state formula) d.state log.steps [] d.reached
    ∙ rw (d.nowhere, d.cause) refl
