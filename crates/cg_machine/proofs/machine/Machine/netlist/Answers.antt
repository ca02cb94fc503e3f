use Rattle.std.proofs.Common.{ap, sym, ◌∙◌}
use Rattle.cg_machine.specs.Added.{own_netlist}
use Rattle.cg_machine.proofs.Keeping.{kept_own}
use Rattle.cg_machine.proofs.machine.Machine.netlist.Goals as goal

pub returns-clause-netlist : goal.returns-clause-netlist
returns-clause-netlist c = sym (kept_own c.self.inside.netlist c.self.inside.prefix c.self.inside.enables.items c.self.inside.gates c.self.inside.delays) ∙ ap own_netlist c.self.view_is
