use Rattle.std.proofs.Common.{arith}
use Rattle.cg_vcd.proofs.StepEnds.{value_given}
use Rattle.cg_vcd.proofs.values.Values.give.Goals as goal

pub returns-clause-latest : goal.returns-clause-latest
returns-clause-latest c = value_given c.args.self.now.latest.items c.args.id c.args.value (omega (arith, c.requires.id, c.requires.values.latest))
