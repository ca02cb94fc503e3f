use Rattle.std.proofs.Common.{refl}
use Rattle.cg_stage_laws.proofs.Appended.{keeps_self}
use Rattle.cg_plan.proofs.Adding.{on_err}
use Rattle.cg_stage_laws.specs.Appends.{Keeps}
use Rattle.cg_plan.proofs.judge.Judge.try_claims.Goals as goal

pub returns-in_err-end-clause-kept : goal.returns-in_err-end-clause-kept
returns-in_err-end-clause-kept c = on_err (Keeps c.args.machine.now c.args.machine.now) c.from_residual.result (keeps_self c.args.machine.now c.args.machine.now c.netlist-netlist.ensures.machine refl)
