use Rattle.std.proofs.Common.{subst}
use Rattle.cg_gate.proofs.planning.write_plan.Goals as goal
use Rattle.cg_gate.specs.Request.{RequestData}
use Rattle.cg_insert.specs.Inserting.{insertion}
use Rattle.cg_limit.specs.Answers.{OrNoMemory}
use Rattle.cg_netlist.specs.Circuit.{Circuit}
use Rattle.cg_netlist.specs.declared.fault.AddFault.TheVariants.{NoMemory}

pub returns : goal.returns
returns c = subst (λ (r : RequestData). OrNoMemory {A = Circuit} {B = Circuit} NoMemory (λ (n : Circuit). n) c.insert.result (insertion r.library r.test c.args.plan.now.machine)) c.request.view_is c.insert.ensures.answer
