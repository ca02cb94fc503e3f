use Rattle.std.proofs.Common.{◌-◌}
use Rattle.cg_plan_laws.specs.Plan.{rounds}
use Rattle.cg_plan.specs.inner.Drafting.{IsLeft}
use Rattle.cg_plan.proofs.plan.Draft.rounds.Given as goal

abbrev pub invariant-loop : goal.invariant-loop
invariant-loop g l = IsLeft l.rules.settings.now (rounds l.rules.library.now l.rules.settings.now l.kind l.rules.settings.now.rounds) (rounds l.rules.library.now l.rules.settings.now l.kind (l.rules.settings.now.rounds - l.counter)) l.initial.self l.self
