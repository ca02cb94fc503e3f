use Rattle.std.proofs.Common.{◌+◌, ◌∙◌, arith}
use Rattle.cg_machine.proofs.KeptMachines.{gate_after, gate_view_after}
use Rattle.cg_machine.proofs.machine.Machine.push_gate.Goals as goal

pub invariant_of-self-2 : goal.invariant_of-self-2
invariant_of-self-2 c =
    gate_after c.self.inside.netlist c.self.inside.prefix c.self.inside.enables.items c.self.inside.gates c.self.inside.delays c.self.inside.drivers.items c.self.invariant c.args.self.now c.self.view_is
    c.args.kind c.args.inputs.now c.in_ok-inputs.inputs.items c.args.output c.in_ok-inputs.ensures.items c.requires.fits c.requires.room c.requires.next c.new-id.result (c.new-id.ensures ∙ c.cells.ensures) c.push-pushed.new.self c.push-pushed.result c.push-pushed.ensures.pushed c.push-pushed.ensures.unchanged
    c.push.new.self.items c.truncate.new.self.items (c.len.result + c.len-2.result) c.in_ok-push.ensures.items (omega (arith, c.len.ensures, c.len-2.ensures)) c.truncate.ensures.items

pub returns-clause-pushed : goal.returns-clause-pushed
returns-clause-pushed c =
    gate_view_after c.self.inside.netlist c.self.inside.prefix c.self.inside.enables.items c.self.inside.gates c.self.inside.delays c.self.inside.drivers.items c.self.invariant c.args.self.now c.self.view_is
    c.args.kind c.args.inputs.now c.in_ok-inputs.inputs.items c.args.output c.in_ok-inputs.ensures.items c.requires.fits c.requires.room c.requires.next c.new-id.result (c.new-id.ensures ∙ c.cells.ensures) c.push-pushed.new.self c.push-pushed.result c.push-pushed.ensures.pushed
