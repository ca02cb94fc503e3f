-- What a step of the check leads to.
use Rattle.std.specs.Prelude.{Bool, Option, Some, None, if◌then◌else◌}
use Rattle.cg_lrat.specs.declared.log.Step.{Step}
use Rattle.cg_lrat.specs.declared.verdict.Why.{Why}
use Rattle.cg_lrat.specs.declared.progress.Next.{Next}
use Rattle.cg_lrat.specs.declared.progress.Next.TheVariants.{Refused, Accepted, Later}
use Rattle.cg_lrat.specs.declared.progress.Progress.{Progress}
use Rattle.cg_lrat.specs.Accepted.{State, fault_of, adds_empty}
use Rattle.cg_lrat.specs.inner.LiveTable.{live_in}

abbrev pub state_of : Progress → State
state_of progress = record { live = live_in progress.live; greatest = progress.greatest }

abbrev pub next_by : Option Why → Bool → Next
next_by (Some why) empty = Refused why
next_by None empty = if empty then Accepted else Later

abbrev pub next_of : State → Step → Next
next_of state step = next_by (fault_of state step.body step.id) (adds_empty step.body)
