use Rattle.std.proofs.Common.{subst}
use Rattle.cg_machine.specs.Added.{HasNames}
use Rattle.cg_machine.proofs.Keeping.{kept_names}
use Rattle.cg_machine.proofs.machine.Machine.prefix.Goals as goal

pub returns-clause-names : goal.returns-clause-names
returns-clause-names c = subst HasNames c.self.view_is (kept_names c.self.inside.netlist c.self.inside.prefix c.self.inside.enables.items c.self.inside.gates c.self.inside.delays)
