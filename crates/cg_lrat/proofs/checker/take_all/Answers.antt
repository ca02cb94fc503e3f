use Rattle.std.proofs.Common.{◌≡◌, ℕ, ◌+◌, suc, Bool, true, false, List, ◌∷◌, Option, Some, None, Ok, drop, refl, sym, ap, ◌∙◌, arith}
use Rattle.cg_lrat.specs.declared.log.Step.{Step}
use Rattle.cg_lrat.specs.declared.progress.Next.TheVariants.{Refused, Accepted, Later}
use Rattle.cg_lrat.specs.declared.verdict.Verdict.{Verdict}
use Rattle.cg_lrat.specs.declared.verdict.Verdict.TheVariants as verdicts
use Rattle.cg_lrat.specs.declared.verdict.Why.{Why}
use Rattle.cg_lrat.specs.Accepted.{State, adds_empty, fault_of, state_after, step_verdict, verdict_from}
use Rattle.cg_lrat.specs.Views.{shown}
use Rattle.cg_lrat.specs.inner.Progress.{next_by, state_of}
use Rattle.cg_lrat.proofs.StepLists.{dropped_at}
use Rattle.cg_lrat.proofs.checker.take_all.Goals as goal

refused : (fault : Option Why) (empty : Bool) (line : ℕ) (later : Verdict) (why : Why) → Refused why ≡ next_by fault empty
    → verdicts.Rejected line why ≡ step_verdict fault empty line later
refused (Some other) empty line later why e = let same : why ≡ other = cc in ap (verdicts.Rejected line) same
refused None true line later why e = absurd (cc)
refused None false line later why e = absurd (cc)

accepted : (fault : Option Why) (empty : Bool) (line : ℕ) (later : Verdict) → Accepted ≡ next_by fault empty → verdicts.Accepted ≡ step_verdict fault empty line later
accepted (Some why) empty line later e = absurd (cc)
accepted None true line later e = refl
accepted None false line later e = absurd (cc)

goes_on : (fault : Option Why) (empty : Bool) (line : ℕ) (later : Verdict) → Later ≡ next_by fault empty → later ≡ step_verdict fault empty line later
goes_on (Some why) empty line later e = absurd (cc)
goes_on None true line later e = absurd (cc)
goes_on None false line later e = refl

abbrev rest : (state : State) (step : Step) (later : List Step) → Verdict
rest state step later = verdict_from (state_after state step.body step.id) later

pub returns-in-Refused : goal.returns-in-Refused
returns-in-Refused c =
    let state = state_of c.loop-place.progress in
    let steps = c.args.steps.now in
    let step = shown c.at-step.result in
    let later = drop (suc c.loop-place.place) steps in
    let split : drop c.loop-place.place steps ≡ step ∷ later = dropped_at steps c.loop-place.place step c.at-step.ensures.step in
    refused (fault_of state step.body step.id) (adds_empty step.body) step.line (rest state step later) c.in-Refused.why (sym c.in-Refused.is ∙ c.in_ok-why.ensures.next)
    ∙ ap (verdict_from state) (sym split) ∙ c.loop-place.invariant

pub returns-in-Accepted : goal.returns-in-Accepted
returns-in-Accepted c =
    let state = state_of c.loop-place.progress in
    let steps = c.args.steps.now in
    let step = shown c.at-step.result in
    let later = drop (suc c.loop-place.place) steps in
    let split : drop c.loop-place.place steps ≡ step ∷ later = dropped_at steps c.loop-place.place step c.at-step.ensures.step in
    accepted (fault_of state step.body step.id) (adds_empty step.body) step.line (rest state step later) (sym c.in-Accepted.is ∙ c.in_ok-why.ensures.next)
    ∙ ap (verdict_from state) (sym split) ∙ c.loop-place.invariant

pub loop-place-preserved : goal.loop-place-preserved
loop-place-preserved c =
    let state = state_of c.loop-place.progress in
    let steps = c.args.steps.now in
    let step = shown c.at-step.result in
    let later = drop (suc c.loop-place.place) steps in
    let split : drop c.loop-place.place steps ≡ step ∷ later = dropped_at steps c.loop-place.place step c.at-step.ensures.step in
    let moved : state_of c.take.new.self ≡ state_after state step.body step.id = c.take.ensures.later (c.in_ok-why.was ∙ ap Ok c.in-Later.is) in
    let next : c.loop-place.place + 1 ≡ suc c.loop-place.place = omega arith in
    rw next (ap (λ (s : State). verdict_from s later) moved
    ∙ goes_on (fault_of state step.body step.id) (adds_empty step.body) step.line (rest state step later) (sym c.in-Later.is ∙ c.in_ok-why.ensures.next)
    ∙ ap (verdict_from state) (sym split) ∙ c.loop-place.invariant)
