use Rattle.std.proofs.Common.{arith}
use Rattle.cg_extract.proofs.BareOfUngated.{nothing}
use Rattle.cg_extract.proofs.extract.extract.Goals as goal

pub of_ungated-requires-clause-none : goal.of_ungated-requires-clause-none
of_ungated-requires-clause-none c = nothing c.args.netlist.gaters (omega (arith, c.gaters.ensures.count, c.if-gaters-eq0.true))
