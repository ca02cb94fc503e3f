use Rattle.std.proofs.Common.{refl, arith}
use Rattle.cg_sat_state.proofs.Arena.{store_same, store_without}
use Rattle.cg_sat_state.proofs.clauses.Clauses.remove.Goals as goal

pub returns-then-place-len : goal.returns-then-place-len
returns-then-place-len c = rw (← c.self.view_is) (store_without c.self.inside.lits.items c.self.inside.spans.items c.args.place _ refl)

pub returns-else-place-len : goal.returns-else-place-len
returns-else-place-len c = rw (← c.self.view_is) (store_same c.self.inside.lits.items c.self.inside.spans.items c.args.place (omega arith))
