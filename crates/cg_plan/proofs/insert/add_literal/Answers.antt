use Rattle.std.proofs.Common.{refl}
use Rattle.cg_stage_laws.proofs.Appended.{keeps_self}
use Rattle.cg_plan.proofs.insert.add_literal.Goals as goal

pub returns-else-literal-clause-keeps : goal.returns-else-literal-clause-keeps
returns-else-literal-clause-keeps c = keeps_self c.args.machine.now c.args.machine.now c.netlist-netlist.ensures.machine refl
