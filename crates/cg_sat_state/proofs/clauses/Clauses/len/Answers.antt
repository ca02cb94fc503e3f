use Rattle.std.proofs.Common.{arith}
use Rattle.cg_sat_state.proofs.clauses.Clauses.len.Goals as goal

pub returns-clause-few : goal.returns-clause-few
returns-clause-few c = omega (arith, c.as_slice.type_inv, c.as_slice.ensures.len)
