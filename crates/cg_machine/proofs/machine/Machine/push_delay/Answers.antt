use Rattle.std.proofs.Common.{◌+◌, ◌∙◌, arith}
use Rattle.cg_machine.proofs.KeptMachines.{delay_after, delay_view_after, not_there}
use Rattle.cg_machine.proofs.machine.Machine.push_delay.Goals as goal

pub push-pushed-requires : goal.push-pushed-requires
push-pushed-requires c = record { absent = not_there c.self.inside.netlist c.self.inside.prefix c.self.inside.enables.items c.self.inside.gates c.self.inside.delays c.self.inside.drivers.items c.self.invariant c.args.self.now c.self.view_is c.args.net c.requires.absent }

pub invariant_of-self-2 : goal.invariant_of-self-2
invariant_of-self-2 c =
    delay_after c.self.inside.netlist c.self.inside.prefix c.self.inside.enables.items c.self.inside.gates c.self.inside.delays c.self.inside.drivers.items c.self.invariant c.args.self.now c.self.view_is
    c.args.net c.args.output c.requires.clock c.requires.net c.requires.room c.requires.space c.requires.next c.new-reg.result (c.new-reg.ensures ∙ c.registers.ensures) c.push-pushed.new.self c.push-pushed.result c.push-pushed.ensures.pushed c.push-pushed.ensures.unchanged
    c.push.new.self.items c.truncate.new.self.items (c.len.result + c.len-2.result) c.in_ok-push.ensures.items (omega (arith, c.len.ensures, c.len-2.ensures)) c.truncate.ensures.items

pub returns-clause-pushed : goal.returns-clause-pushed
returns-clause-pushed c =
    delay_view_after c.self.inside.netlist c.self.inside.prefix c.self.inside.enables.items c.self.inside.gates c.self.inside.delays c.self.inside.drivers.items c.self.invariant c.args.self.now c.self.view_is
    c.args.net c.args.output c.requires.clock c.requires.net c.requires.room c.requires.space c.requires.next c.new-reg.result (c.new-reg.ensures ∙ c.registers.ensures) c.push-pushed.new.self c.push-pushed.result c.push-pushed.ensures.pushed
