use Rattle.std.proofs.Common.{sym, ◌∙◌}
use Rattle.cg_machine.proofs.There.{delay_found, delay_new}
use Rattle.cg_machine.proofs.machine.Machine.add_delay.Goals as goal

pub returns-in-Some-clause-there : goal.returns-in-Some-clause-there
returns-in-Some-clause-there c = delay_found c.args.self.now c.args.net c.find_delay.ensures.machine c.requires.net c.requires.clock c.in-Some.output (sym c.find_delay.ensures.found ∙ c.in-Some.is)

pub returns-clause-there : goal.returns-clause-there
returns-clause-there c =
    delay_new c.args.self.now c.args.net c.find_delay.ensures.machine c.requires.net c.requires.clock (sym c.find_delay.ensures.found ∙ c.in_default.is) c.in_ok-output.ensures.1 c.in_ok-check_registers.ensures
    c.push_delay.new.self c.in_ok-output.output c.in_ok-push_delay.ensures.pushed c.in_ok-output.ensures.0
