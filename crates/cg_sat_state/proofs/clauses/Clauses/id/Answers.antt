use Rattle.std.proofs.Common.{arith}
use Rattle.cg_sat_state.proofs.clauses.Clauses.id.Goals as goal

pub overflow_add-result : goal.overflow_add-result
overflow_add-result c = omega (arith, c.requires, c.len.ensures.count, c.len.ensures.few)
