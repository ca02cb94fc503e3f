use Rattle.std.proofs.Common.{arith}
use Rattle.cg_lrat.proofs.NonFalseFound.{non_false_found}
use Rattle.cg_lrat.proofs.hint.non_false.Goals as goal

pub returns : goal.returns
returns c = non_false_found c.loop-lit.found c.args.assignment.now c.args.clause.now c.loop-lit.lit-index (omega arith) c.loop-lit.invariant
