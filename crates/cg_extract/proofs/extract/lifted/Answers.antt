use Rattle.std.proofs.Common.{sym, ap, ◌∙◌, subst}
use Rattle.cg_machine.specs.Machine.{MachineData}
use Rattle.cg_machine.specs.Start.{CanStart}
use Rattle.cg_extract.proofs.Bare.{bare_starts}
use Rattle.cg_extract.specs.Lifted.{lifted}
use Rattle.cg_extract.proofs.extract.lifted.Goals as goal

pub of-requires : goal.of-requires
of-requires c = subst (λ d. CanStart d c.args.prefix.now) (sym c.in_ok-bare.ensures) (bare_starts c.args.netlist.now c.args.prefix.now c.requires)

pub returns-in-Ok : goal.returns-in-Ok
returns-in-Ok c = c.in-Ok.ensures ∙ ap (lifted c.args.netlist.now) (ap (λ (m : MachineData). m.prefix) c.in_ok-machine.ensures)
