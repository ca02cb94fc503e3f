use Rattle.std.proofs.Common.{◌≡◌, ◌++◌, take}
use Rattle.cg_sat_state.proofs.clauses.append.Given as goal

abbrev pub invariant-loop-lit : goal.invariant-loop-lit
invariant-loop-lit l = l.lits.items ≡ l.fn.lits.items ++ take l.lit-index l.more
