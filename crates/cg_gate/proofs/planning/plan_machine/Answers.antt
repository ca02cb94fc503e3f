use Rattle.std.proofs.Common.{IfErr, subst}
use Rattle.std.specs.Option.{option_copied}
use Rattle.cg_gate.proofs.planning.plan_machine.Goals as goal
use Rattle.cg_gate.specs.Request.{RequestData}
use Rattle.cg_plan_laws.specs.Plan.{plan_of}
use Rattle.cg_plan_laws.specs.Reported.{PlanMayFail}

pub returns-clause-fault : goal.returns-clause-fault
returns-clause-fault g c = subst (λ (r : RequestData). IfErr c.make_plan.result (PlanMayFail (plan_of r.library r.settings (option_copied c.args.counts) c.args.machine).limit)) c.request.view_is c.make_plan.ensures.fault
