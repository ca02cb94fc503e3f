use Rattle.std.proofs.Common.{ap, sym, ◌∙◌}
use Rattle.cg_machine.specs.Added.{find_delay}
use Rattle.cg_machine.proofs.Keeping.{kept_find}
use Rattle.cg_machine.proofs.machine.Machine.find_delay.Goals as goal

pub returns-clause-found : goal.returns-clause-found
returns-clause-found c = c.find.ensures ∙ (sym (kept_find c.self.inside.netlist c.self.inside.prefix c.self.inside.enables.items c.self.inside.gates c.self.inside.delays c.args.net) ∙ ap (λ m. find_delay m c.args.net) c.self.view_is)
