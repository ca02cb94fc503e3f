use Rattle.std.proofs.Common.{ap, length, arith}
use Rattle.cg_formula.proofs.ClauseLists.{count_of}
use Rattle.cg_formula.proofs.clause_list.ClauseList.at.Goals as goal

pub clause_in-requires-clause-place : goal.clause_in-requires-clause-place
clause_in-requires-clause-place c =
    let count = count_of 0 c.self.inside.lits.items c.self.inside.ends.items in
    omega (arith, count, ap length c.self.view_is, ap length c.as_slice-2.ensures.value, c.requires)
