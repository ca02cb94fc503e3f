use Rattle.std.proofs.Common.{Some, slice_set, ap, sym, ◌∙◌, subst}
use Rattle.cg_machine.specs.inner.Kept.{IsKept, kept}
use Rattle.cg_machine.proofs.KeptMachines.{enable_kept, enable_view}
use Rattle.cg_machine.proofs.machine.Machine.set_enable.Goals as goal

pub invariant_of-self : goal.invariant_of-self
invariant_of-self c =
    subst (λ k. IsKept c.self.inside.netlist c.self.inside.prefix (slice_set c.self.inside.enables.items k (Some c.args.net)) c.self.inside.gates c.self.inside.delays c.self.inside.drivers.items) (sym c.number.ensures.number)
    (enable_kept c.self.inside.netlist c.self.inside.prefix c.self.inside.enables.items c.self.inside.gates c.self.inside.delays c.self.inside.drivers.items c.self.invariant c.args.self.now c.self.view_is c.args.reg c.args.net c.requires.register c.requires.net)

pub returns : goal.returns
returns c =
    ap (λ k. kept c.self.inside.netlist c.self.inside.prefix (slice_set c.self.inside.enables.items k (Some c.args.net)) c.self.inside.gates c.self.inside.delays) c.number.ensures.number
    ∙ enable_view c.self.inside.netlist c.self.inside.prefix c.self.inside.enables.items c.self.inside.gates c.self.inside.delays c.self.inside.drivers.items c.self.invariant c.args.self.now c.self.view_is c.args.reg c.args.net c.requires.register c.requires.net
