-- The steps that a list lends.
use Rattle.cg_lrat.specs.declared.log.Body.{Body}
use Rattle.cg_lrat.specs.declared.log.Body.TheVariants.{Add, Delete}
use Rattle.cg_lrat.specs.declared.log.Step.{Step}
use Rattle.cg_lrat.specs.declared.step_list.BodyView.{BodyView}
use Rattle.cg_lrat.specs.declared.step_list.BodyView.TheVariants as views
use Rattle.cg_lrat.specs.declared.step_list.StepView.{StepView}

abbrev pub body_shown : BodyView → Body
body_shown (views.Add lits hints) = Add (record { lits = lits.now }) hints.now
body_shown (views.Delete ids) = Delete ids.now

-- the step that is lent
abbrev pub shown : StepView → Step
shown view = record { line = view.line; id = view.id; body = body_shown view.body }
