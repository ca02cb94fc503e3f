use Rattle.std.proofs.Common.{sym, ◌∙◌}
use Rattle.cg_machine.proofs.There.{gate_found, gate_new}
use Rattle.cg_machine.proofs.machine.Machine.add_gate.Goals as goal

pub returns-in-Some-clause-there : goal.returns-in-Some-clause-there
returns-in-Some-clause-there c = gate_found c.args.self.now c.args.kind c.args.inputs.now c.find_gate.ensures.machine c.requires.fits c.in-Some.net (sym c.find_gate.ensures.found ∙ c.in-Some.is)

pub returns-clause-there : goal.returns-clause-there
returns-clause-there c =
    gate_new c.args.self.now c.args.kind c.args.inputs.now c.find_gate.ensures.machine c.requires.fits (sym c.find_gate.ensures.found ∙ c.in_default.is) c.in_ok-output.ensures.1
    c.push_gate.new.self c.in_ok-output.output c.in_ok-push_gate.ensures.pushed c.in_ok-output.ensures.0
